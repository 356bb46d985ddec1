use Rattle.emath.specs.Rectangles.{max_f}
use Rattle.emath.proofs.unions.greater.Goals as goal

pub returns-then-a-b : goal.returns-then-a-b
unfolding max_f
returns-then-a-b c = rw c.if-a-b.true

pub returns-else-a-b : goal.returns-else-a-b
unfolding max_f
returns-else-a-b c = rw (c.if-a-b.false, c.requires)
