use Rattle.layout.specs.Layouts.{vertical_justify}
use Rattle.layout.proofs.Layout.vertical_justify.Goals as goal

pub returns-then-is_vertical : goal.returns-then-is_vertical
unfolding vertical_justify
returns-then-is_vertical c = rw (← c.is_vertical.ensures, c.if-is_vertical.true)

pub returns-else-is_vertical : goal.returns-else-is_vertical
unfolding vertical_justify
returns-else-is_vertical c = rw (← c.is_vertical.ensures, c.if-is_vertical.false)
