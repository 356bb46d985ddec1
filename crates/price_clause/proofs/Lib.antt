-- The price clause, in the order of the argument. Nothing stands on it.
mod Plates
mod OfStrips
mod OfGrids
pub mod PriceClause
pub mod CallClause
pub mod UnitClause
mod OfCases
