use Rattle.layout.specs.Layouts.{horizontal_justify}
use Rattle.layout.proofs.Layout.horizontal_justify.Goals as goal

pub returns-then-is_horizontal : goal.returns-then-is_horizontal
unfolding horizontal_justify
returns-then-is_horizontal c = rw (← c.is_horizontal.ensures, c.if-is_horizontal.true)

pub returns-else-is_horizontal : goal.returns-else-is_horizontal
unfolding horizontal_justify
returns-else-is_horizontal c = rw (← c.is_horizontal.ensures, c.if-is_horizontal.false)
