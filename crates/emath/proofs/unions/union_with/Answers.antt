use Rattle.emath.specs.Rectangles.{union}
use Rattle.emath.proofs.unions.union_with.Goals as goal

pub returns : goal.returns
unfolding union
returns c = rw (c.greater-2.ensures, c.greater.ensures, c.lesser-2.ensures, c.lesser.ensures)
