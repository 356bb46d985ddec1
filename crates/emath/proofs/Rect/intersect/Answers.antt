use Rattle.emath.specs.Rectangles.{intersect}
use Rattle.emath.proofs.Rect.intersect.Goals as goal

pub returns : goal.returns
unfolding intersect
returns c = rw (c.min-2.ensures, c.min.ensures, c.max-2.ensures, c.max.ensures)
