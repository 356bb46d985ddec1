use Rattle.std.proofs.Common.{refl}
use Rattle.std.specs.Float.Ieee.{of_bits}
use Rattle.emath.proofs.num.is_infinite.Goals as goal

pub returns : goal.returns
unfolding of_bits
returns c = refl
