-- The laws of a sheet's pass, in the order of the argument. Layers above cite them as Rattle.sheet.proofs.NAME.
-- Accepted runs and passes, taken apart.
pub mod Runs
pub mod Passes
pub mod PlacedCells
pub mod Plates
pub mod WidgetCalls
-- The call that runs.
mod Stepping
pub mod Slices
pub mod Ticking
mod Walks
pub mod Walking
mod WalkedRuns
pub mod Returned
mod WalkedPasses
pub mod Shown
pub mod Controls
