use Rattle.layout.specs.Rules.{next_widget_space_ignore_wrap_justify}
use Rattle.layout.proofs.widgets.next_widget_space_ignore_wrap_justify.Goals as goal

pub returns : goal.returns
unfolding next_widget_space_ignore_wrap_justify
returns c = rw (c.align_size_within_rect.ensures, c.next_frame_ignore_wrap.ensures)
