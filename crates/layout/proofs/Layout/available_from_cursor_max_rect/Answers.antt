use Rattle.std.proofs.Common.{refl}
use Rattle.layout.specs.Operations.{checked_available_from_cursor_max_rect, available_from_cursor_max_rect_number}
use Rattle.emath.specs.Refusals.{least}
use Rattle.emath.proofs.Refusals.{says}
use Rattle.layout.proofs.Layout.available_from_cursor_max_rect.Goals as goal

pub returns : goal.returns
unfolding checked_available_from_cursor_max_rect available_from_cursor_max_rect_number least
returns c = rw (c.placed.ensures, c.first_of.ensures, c.rect_fault.ensures, c.cursor_fault.ensures, c.available_from_cursor_max_rect-rect.ensures) (record { answer = refl; says = says _ _ _ })
