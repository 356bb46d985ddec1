-- The laws of a sheet's passes, in the order of the argument. Layers above cite them as Rattle.pass_laws.proofs.NAME.
-- What a record does to a grid; the column law.
pub mod GridMoves
mod ColumnWidths
pub mod ColumnRuns
pub mod Widest
pub mod ColumnLaw
-- A grid's memory settles; all further passes.
mod GridTops
pub mod Lists
pub mod Listed
mod RowHeights
mod Settling
pub mod FurtherPasses
-- A settled grid of controls stands in columns.
pub mod GridStarts
pub mod ColumnPlaces
pub mod SettledColumns
-- The cells of a pass, one by one.
mod CellRuns
-- Whole steps.
pub mod WholeTops
pub mod SmallestPlates
pub mod WholeEdges
pub mod TextTicks
-- No rectangle is inside out, and each W is its calls.
pub mod UprightPasses
