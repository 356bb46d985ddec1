use Rattle.std.proofs.Common.{refl}
use Rattle.emath.specs.Domain.{within}
use Rattle.emath.proofs.domain.is_within.Goals as goal

pub returns : goal.returns
unfolding within
returns c = refl
