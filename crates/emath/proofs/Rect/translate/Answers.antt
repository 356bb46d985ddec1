use Rattle.emath.specs.Rectangles.{translate}
use Rattle.emath.proofs.Rect.translate.Goals as goal

pub returns : goal.returns
unfolding translate
returns c = rw (c.from_min_size.ensures, c.size.ensures)
