-- The laws, in the order of the argument. Layers above cite them as Rattle.emath.proofs.NAME.
pub mod Tests
pub mod Whole
pub mod Exact
pub mod Values
pub mod Casts
pub mod Order
pub mod OrderLaws
pub mod Zeros
pub mod MinMax
mod NearUp
pub mod Rounding
mod NearestWhole
mod Shifted
pub mod Unique
pub mod RoundOrder
pub mod Edges
pub mod Centres
pub mod Sums
mod SumOrder
pub mod Binary32
pub mod Refusals
pub mod Upright
