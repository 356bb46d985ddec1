use Rattle.layout.specs.Rules.{next_widget_position}
use Rattle.layout.proofs.widgets.next_widget_position.Goals as goal

pub returns : goal.returns
unfolding next_widget_position
returns c = rw (c.center.ensures, c.next_widget_space_ignore_wrap_justify.ensures)
