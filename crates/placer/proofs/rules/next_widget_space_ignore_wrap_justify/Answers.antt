use Rattle.placer.specs.Rules.{next_widget_space_ignore_wrap_justify}
use Rattle.placer.proofs.rules.next_widget_space_ignore_wrap_justify.Goals as goal

pub returns : goal.returns
unfolding next_widget_space_ignore_wrap_justify
returns c = rw c.next_widget_space_ignore_wrap_justify.ensures
