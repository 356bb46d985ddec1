use Rattle.layout.specs.Rules.{region_from_max_rect}
use Rattle.layout.proofs.widgets.region_from_max_rect.Goals as goal

pub returns : goal.returns
unfolding region_from_max_rect
returns c = rw (c.from_center_size.ensures, c.next_widget_position-seed.ensures, c.initial_cursor.ensures)
