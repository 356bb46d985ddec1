use Rattle.emath.proofs.Refusals.{when-number}
use Rattle.placer.proofs.faults.row_fault.Goals as goal

pub returns : goal.returns
returns c = rw (c.then_some.ensures, when-number)
