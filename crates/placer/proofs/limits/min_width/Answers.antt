use Rattle.placer.specs.Rules.{expand_to_include_x, grown_across, set_min_width, next_widget_space_ignore_wrap_justify}
use Rattle.placer.proofs.limits.min_width.Goals as goal

pub returns-then-width : goal.returns-then-width
unfolding set_min_width
returns-then-width c b m = rw c.if-width.true

pub returns : goal.returns
unfolding set_min_width grown_across expand_to_include_x next_widget_space_ignore_wrap_justify
returns c b m = rw (c.if-width.false, c.grown_across.ensures, c.next_widget_space_ignore_wrap_justify.ensures)
