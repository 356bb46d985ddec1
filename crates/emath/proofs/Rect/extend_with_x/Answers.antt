use Rattle.emath.specs.Rectangles.{extend_with_x}
use Rattle.emath.proofs.Rect.extend_with_x.Goals as goal

pub returns : goal.returns
unfolding extend_with_x
returns c = rw (c.max.ensures, c.min.ensures)
