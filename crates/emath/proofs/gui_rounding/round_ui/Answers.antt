use Rattle.std.specs.Float.Ieee.{of_bits}
use Rattle.emath.proofs.gui_rounding.round_ui.Goals as goal

pub round_by-requires : goal.round_by-requires
round_by-requires c = tt

pub returns : goal.returns
unfolding of_bits
returns c = c.round_by.ensures
