use Rattle.emath.specs.Rectangles.{extend_with_y}
use Rattle.emath.proofs.Rect.extend_with_y.Goals as goal

pub returns : goal.returns
unfolding extend_with_y
returns c = rw (c.max.ensures, c.min.ensures)
