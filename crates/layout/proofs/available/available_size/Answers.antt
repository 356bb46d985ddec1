use Rattle.layout.specs.Rules.{available_size}
use Rattle.layout.proofs.available.available_size.Goals as goal

pub returns-then-is_horizontal : goal.returns-then-is_horizontal
unfolding available_size
returns-then-is_horizontal c = rw (c.if-layout.true, ← c.is_horizontal.ensures, c.if-is_horizontal.true, c.height.ensures, c.width.ensures)

pub returns-then-layout : goal.returns-then-layout
unfolding available_size
returns-then-layout c = rw (c.if-layout.true, ← c.is_horizontal.ensures, c.if-is_horizontal.false, c.height-then-layout.ensures, c.width-then-layout.ensures)

pub returns : goal.returns
unfolding available_size
returns c = rw (c.if-layout.false, c.size.ensures, c.available_rect_before_wrap.ensures)
