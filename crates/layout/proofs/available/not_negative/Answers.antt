use Rattle.layout.specs.Rules.{not_negative}
use Rattle.layout.proofs.available.not_negative.Goals as goal

pub returns-then-high-low : goal.returns-then-high-low
unfolding not_negative
returns-then-high-low c = rw (c.if-high-low.true, c.fast_midpoint-x.ensures)

pub returns-else-high-low : goal.returns-else-high-low
unfolding not_negative
returns-else-high-low c = rw c.if-high-low.false
