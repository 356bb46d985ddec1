use Rattle.listing.proofs.Printed.{same-room as list-room}
use lib.ListN.{length, length-take}
use Rattle.sheet_drawing.proofs.OfSheets.{list_written}
use mathlib.Core.Path.{◌≡◌}
use native.Mathlib.Omega.{arith}
use Rattle.sheet_drawing.proofs.draw_sheet.Goals as goal

pub slice_bounds-list-end : goal.slice_bounds-list-end
slice_bounds-list-end c = let l : length c.print-n.new.out ≡ 40802 = list-room _ _ _ _ c.print-n.ensures.0 in omega (arith, l, c.print-n.ensures.1)

pub slice_bounds-draw-end : goal.slice_bounds-draw-end
slice_bounds-draw-end c = let l : length c.print-n.new.out ≡ 40802 = list-room _ _ _ _ c.print-n.ensures.0 in simp length-take (omega (arith, l, c.print-n.ensures.1))

pub returns : goal.returns
returns c = rw (← c.has_unit.ensures, ← list_written _ _ _ _ c.print-n.ensures.0 c.print-n.ensures.1) c.draw.ensures
