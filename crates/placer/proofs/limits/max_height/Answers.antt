use Rattle.placer.specs.Rules.{set_max_height, next_widget_space_ignore_wrap_justify}
use Rattle.placer.proofs.limits.max_height.Goals as goal

pub returns : goal.returns
unfolding set_max_height next_widget_space_ignore_wrap_justify
returns c b m = rw (c.limited_down.ensures, c.next_widget_space_ignore_wrap_justify.ensures)
