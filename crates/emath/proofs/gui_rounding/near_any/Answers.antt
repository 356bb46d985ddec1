use Rattle.std.proofs.Common.{sym}
use Rattle.std.specs.Float.Ieee.{of_bits, neg}
use Rattle.emath.proofs.NearestWhole.{opposite, below-zero, at_zero, from_low, from-high}
use Rattle.emath.proofs.Tests.{T_of}
use Rattle.emath.proofs.gui_rounding.near_any.Goals as goal

pub returns-then-not-y : goal.returns-then-not-y
unfolding of_bits neg
returns-then-not-y c = sym (from-high c.args.y (T_of c.well_formed.0.1) c.if-not-y.true)

pub returns-then-not-y-2 : goal.returns-then-not-y-2
unfolding of_bits neg
returns-then-not-y-2 c = sym (from_low c.args.y (T_of c.well_formed.0.1) c.if-not-y-2.true)

pub near-requires : goal.near-requires
unfolding of_bits neg
near-requires c = record { above_zero = T_of c.if-y.true; below_limit = T_of c.if-not-y.false }

pub near-requires-then-y-2 : goal.near-requires-then-y-2
unfolding of_bits neg
near-requires-then-y-2 c = let o = opposite c.args.y (T_of c.well_formed.0.1) c.if-not-y-2.false c.if-y-2.true in record { above_zero = o.0; below_limit = o.1 }

pub returns-then-y-2 : goal.returns-then-y-2
unfolding of_bits neg
returns-then-y-2 c = rw c.near-then-y-2.ensures (below-zero c.args.y (T_of c.well_formed.0.1) c.if-not-y-2.false c.if-y-2.true)

pub returns-else-y-2 : goal.returns-else-y-2
unfolding of_bits neg
returns-else-y-2 c = at_zero c.args.y c.if-not-y.false c.if-y.false c.if-y-2.false
