use Rattle.std.proofs.Common.{refl}
use Rattle.emath.specs.Domain.{negative}
use Rattle.emath.proofs.Vec2.is_negative.Goals as goal

pub returns : goal.returns
unfolding negative
returns c = refl
