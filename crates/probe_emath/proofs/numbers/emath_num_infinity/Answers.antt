use Rattle.std.proofs.Common.{refl}
use Rattle.std.specs.Float.Ieee.{of_bits}
use Rattle.probe_emath.proofs.numbers.emath_num_infinity.Goals as goal

pub returns : goal.returns
unfolding of_bits
returns c = refl
