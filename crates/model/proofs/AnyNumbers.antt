-- The engine on any numbers, and that it follows the passes in whole steps where the numbers are exact.
pub mod EngineAnswers
pub mod Engine
pub mod Exact
pub mod Embedding
mod AcceptedSteps
mod GridSteps
mod GridRuns
pub mod Recorded
pub mod GridPasses
pub mod Arrays
