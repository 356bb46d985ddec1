use Rattle.std.proofs.Common.{refl}
use Rattle.std.specs.Float.Ieee.{of_bits}
use Rattle.emath.proofs.gui_rounding.back_in_ticks.Goals as goal

pub returns : goal.returns
unfolding of_bits
returns c = refl
