-- What a reader must believe of this crate: the price clause (RULES 10.3 to 10.10, 10.13 to 10.15), and the cases of RULES 9.
pub mod Sheets
pub mod PriceClause
pub mod CallClause
pub mod UnitClause
pub mod Cases
