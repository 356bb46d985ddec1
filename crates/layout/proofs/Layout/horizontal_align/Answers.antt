use Rattle.layout.specs.Layouts.{horizontal_align}
use Rattle.layout.proofs.Layout.horizontal_align.Goals as goal

pub returns-then-is_horizontal : goal.returns-then-is_horizontal
unfolding horizontal_align
returns-then-is_horizontal c = rw (← c.is_horizontal.ensures, c.if-is_horizontal.true)

pub returns-else-is_horizontal : goal.returns-else-is_horizontal
unfolding horizontal_align
returns-else-is_horizontal c = rw (← c.is_horizontal.ensures, c.if-is_horizontal.false)
