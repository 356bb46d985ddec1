use Rattle.std.proofs.Common.{refl}
use Rattle.grid.specs.Operations.{checked_next_cell, next_cell_number}
use Rattle.emath.specs.Refusals.{least}
use Rattle.emath.proofs.Refusals.{says}
use Rattle.grid.proofs.GridLayout.next_cell.Goals as goal

pub returns : goal.returns
unfolding checked_next_cell next_cell_number least
returns c = rw (c.placed.ensures, c.first_of.ensures, c.grid_fault.ensures, c.first_of-rest.ensures, c.cursor_fault.ensures, c.first_of-sizes.ensures, c.direction_fault.ensures, c.size_fault.ensures, c.next_cell-frame.ensures) (record { answer = refl; says = says _ _ _ })
