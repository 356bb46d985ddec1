use Rattle.grid.specs.Refusals.{moved_fault}
use Rattle.emath.specs.Refusals.{least}
use Rattle.grid.proofs.faults.moved_fault.Goals as goal

pub returns : goal.returns
unfolding moved_fault least
returns c = rw (c.first_of.ensures, c.cursor_fault.ensures, c.grid_fault.ensures)
