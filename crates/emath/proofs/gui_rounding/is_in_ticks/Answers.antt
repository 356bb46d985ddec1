use Rattle.std.proofs.Common.{ap}
use lib.Ieee.{Float, binary32, div, of_bits}
use Rattle.emath.specs.Rectangles.{round_by}
use Rattle.emath.specs.Steps.{tick, two}
use Rattle.emath.proofs.gui_rounding.is_in_ticks.Goals as goal

pub returns : goal.returns
unfolding round_by of_bits
returns c h = ap (λ (z : Float). div binary32 z (two tick)) (c.is_whole.ensures h)
