use Rattle.emath.specs.Rectangles.{min_f}
use Rattle.emath.proofs.unions.lesser.Goals as goal

pub returns-then-b-a : goal.returns-then-b-a
unfolding min_f
returns-then-b-a c = rw c.if-b-a.true

pub returns-else-b-a : goal.returns-else-b-a
unfolding min_f
returns-else-b-a c = rw (c.if-b-a.false, c.requires)
