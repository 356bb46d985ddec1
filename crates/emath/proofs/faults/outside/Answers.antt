use Rattle.emath.proofs.Refusals.{outside-number}
use Rattle.emath.proofs.faults.outside.Goals as goal

pub returns : goal.returns
returns c = rw c.and.ensures (outside-number _)
