use Rattle.layout.specs.Rules.{available_from_cursor_max_rect}
use Rattle.layout.proofs.available.available_from_cursor_max_rect.Goals as goal

pub returns : goal.returns
unfolding available_from_cursor_max_rect
returns c = rw (c.not_negative_rect.ensures, c.intersect.ensures, c.from_cursor.ensures)
