-- The laws, in the order of the argument. Layers above cite them as Rattle.placer.proofs.NAME.
pub mod Answers
mod Parts
pub mod Unfaulted
pub mod UprightSpaces
pub mod FrameCases
pub mod PlacersF32
pub mod WholePlacers
pub mod WholeCalls
pub mod WholeGrids
pub mod WholeHeights
pub mod Carried
pub mod WholeTopsCalls
mod Kept
