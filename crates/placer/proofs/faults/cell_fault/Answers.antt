use Rattle.emath.specs.Refusals.{least}
use Rattle.emath.proofs.Refusals.{when-number}
use Rattle.placer.proofs.faults.cell_fault.Goals as goal

pub returns : goal.returns
unfolding least
returns c = rw (c.first_of.ensures, c.row_fault.ensures, c.then_some.ensures, when-number)
