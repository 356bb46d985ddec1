use Rattle.layout.specs.Rules.{grown_across}
use Rattle.layout.proofs.cursors.grown_across.Goals as goal

pub returns-then-horizontal : goal.returns-then-horizontal
unfolding grown_across
returns-then-horizontal c = rw (c.if-horizontal.true, c.max.ensures, c.min.ensures)

pub returns-else-horizontal : goal.returns-else-horizontal
unfolding grown_across
returns-else-horizontal c = rw (c.if-horizontal.false, c.max-else-horizontal.ensures, c.min-else-horizontal.ensures)
