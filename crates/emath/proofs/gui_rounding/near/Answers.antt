use Rattle.std.proofs.Common.{◌+◌, ◌/◌, ◌^◌, arith, le→leb}
use lib.Ieee.{in_float}
use Rattle.emath.proofs.NearestWhole.{near-range, near-count}
use Rattle.emath.proofs.Tests.{T_of}
use Rattle.emath.proofs.gui_rounding.near.Goals as goal

pub truncating_f32_to_u64-requires : goal.truncating_f32_to_u64-requires
truncating_f32_to_u64-requires c =
    let n = near-range c.args.y (T_of c.well_formed.0.1) c.requires.above_zero c.requires.below_limit in
    record { lower_bound = n.0; upper_bound = n.1 }

pub overflow_add-n : goal.overflow_add-n
overflow_add-n c =
    let n = near-count c.args.y (T_of c.well_formed.0.1) c.requires.above_zero c.requires.below_limit in
    omega (arith, c.truncating_f32_to_u64.ensures, n.1, n.2)

pub int_to_float-result : goal.int_to_float-result
unfolding in_float
int_to_float-result c =
    let n = near-count c.args.y (T_of c.well_formed.0.1) c.requires.above_zero c.requires.below_limit in
    le→leb ((c.truncating_f32_to_u64.result + 1) / 2) (2 ^ 24) (omega (arith, c.truncating_f32_to_u64.ensures, n.1, n.2))

pub returns : goal.returns
returns c =
    let n = near-count c.args.y (T_of c.well_formed.0.1) c.requires.above_zero c.requires.below_limit in
    rw (c.truncating_f32_to_u64.ensures, n.2) n.3
