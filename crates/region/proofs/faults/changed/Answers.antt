use Rattle.region.specs.Operations.{changed_region}
use Rattle.emath.proofs.Refusals.{or-number}
use Rattle.region.proofs.Answers.{region-outcome}
use Rattle.region.proofs.faults.changed.Goals as goal

pub returns : goal.returns
unfolding changed_region
returns c given = rw (c.answer.ensures, region-outcome, c.or.ensures, or-number, c.outside.ensures, c.region_fault.ensures)
