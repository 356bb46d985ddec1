use Rattle.std.proofs.Common.{refl}
use Rattle.grid.specs.Operations.{checked_available_rect, available_rect_number}
use Rattle.emath.specs.Refusals.{least}
use Rattle.emath.proofs.Refusals.{says}
use Rattle.grid.proofs.GridLayout.available_rect.Goals as goal

pub returns : goal.returns
unfolding checked_available_rect available_rect_number least
returns c = rw (c.placed.ensures, c.first_of.ensures, c.grid_fault.ensures, c.first_of-rest.ensures, c.direction_fault.ensures, c.region_fault.ensures, c.available_rect-rect.ensures) (record { answer = refl; says = says _ _ _ })
