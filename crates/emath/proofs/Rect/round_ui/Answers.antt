use Rattle.emath.specs.Rectangles.{round_rect}
use Rattle.emath.proofs.Rect.round_ui.Goals as goal

pub returns : goal.returns
unfolding round_rect
returns c = rw (c.round_ui-4.ensures, c.round_ui-3.ensures, c.round_ui-2.ensures, c.round_ui.ensures)
