use Rattle.std.specs.Float.Ieee.{of_bits}
use Rattle.emath.proofs.gui_rounding.round.Goals as goal

pub returns-then-is_whole : goal.returns-then-is_whole
unfolding of_bits
returns-then-is_whole c = c.is_whole.ensures c.if-is_whole.true

pub returns : goal.returns
returns c = c.near_any.ensures
