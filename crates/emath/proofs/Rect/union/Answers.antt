use Rattle.emath.specs.Rectangles.{union}
use Rattle.emath.proofs.Rect.union.Goals as goal

pub returns : goal.returns
unfolding union
returns c = rw (c.max-2.ensures, c.max.ensures, c.min-2.ensures, c.min.ensures)
