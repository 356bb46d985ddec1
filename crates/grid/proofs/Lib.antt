-- The laws, in the order of the argument. Layers above cite them as Rattle.grid.proofs.NAME.
mod Turns
mod Counts
pub mod Remembered
pub mod Answers
pub mod UprightCells
pub mod Cells
pub mod WidgetHeights
pub mod Advances
pub mod Unfaulted
