use Rattle.placer.specs.Refusals.{changed_placer}
use Rattle.emath.proofs.Refusals.{or-number}
use Rattle.placer.proofs.Answers.{placer-outcome}
use Rattle.placer.proofs.faults.changed.Goals as goal

pub returns : goal.returns
unfolding changed_placer
returns c given = rw (c.answer.ensures, placer-outcome, c.or.ensures, or-number, c.outside.ensures, c.placer_fault.ensures)
