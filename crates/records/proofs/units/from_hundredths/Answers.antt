use Rattle.std.proofs.Common.{arith}
use Rattle.records.proofs.HundredthTicks.{product-fits, sum_fits, quotient_fits, quotient_is}
use Rattle.records.proofs.units.from_hundredths.Goals as goal

pub overflow_mul-result : goal.overflow_mul-result
overflow_mul-result c = product-fits _ c.ranges.z c.requires

pub overflow_add-result : goal.overflow_add-result
overflow_add-result c = sum_fits _ c.ranges.z c.requires _ c.half.ensures

pub nonzero_div-result : goal.nonzero_div-result
nonzero_div-result c = (omega arith, quotient_fits _ c.ranges.z c.requires _ c.half.ensures)

pub returns : goal.returns
returns c = quotient_is _ c.ranges.z c.requires _ c.half.ensures
