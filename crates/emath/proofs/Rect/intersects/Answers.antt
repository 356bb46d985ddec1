use Rattle.std.proofs.Common.{refl}
use Rattle.emath.specs.Rectangles.{intersects}
use Rattle.emath.proofs.Rect.intersects.Goals as goal

pub returns : goal.returns
unfolding intersects
returns c = refl
