use Rattle.placer.specs.Rules.{expand_to_include_y, grown_down, set_min_height, next_widget_space_ignore_wrap_justify}
use Rattle.placer.proofs.limits.min_height.Goals as goal

pub returns-then-height : goal.returns-then-height
unfolding set_min_height
returns-then-height c b m = rw c.if-height.true

pub returns : goal.returns
unfolding set_min_height grown_down expand_to_include_y next_widget_space_ignore_wrap_justify
returns c b m = rw (c.if-height.false, c.grown_down.ensures, c.next_widget_space_ignore_wrap_justify.ensures)
