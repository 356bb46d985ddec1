use Rattle.layout.specs.Rules.{reaching}
use Rattle.layout.proofs.frames.reaching_to.Goals as goal

pub returns-then-horizontal : goal.returns-then-horizontal
unfolding reaching
returns-then-horizontal c = rw (c.if-horizontal.true, c.max.ensures)

pub returns-else-horizontal : goal.returns-else-horizontal
unfolding reaching
returns-else-horizontal c = rw (c.if-horizontal.false, c.max-else-horizontal.ensures)
