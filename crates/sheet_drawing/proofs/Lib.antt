-- The laws of a sheet's drawing, in the order of the argument.
pub mod OfSheets
mod OfPasses
mod ShownPasses
