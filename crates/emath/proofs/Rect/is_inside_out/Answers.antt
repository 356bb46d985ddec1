use Rattle.std.proofs.Common.{refl}
use Rattle.emath.specs.Domain.{inside_out}
use Rattle.emath.proofs.Rect.is_inside_out.Goals as goal

pub returns : goal.returns
unfolding inside_out
returns c = refl
