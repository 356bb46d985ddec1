-- Grids, by the engine on f32 numbers.
mod GridStates
mod GridSteps
mod GridRun
mod GridCounts
mod GridHeads
mod TickOrders
pub mod Grids
