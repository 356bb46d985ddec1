-- The laws, in the order of the argument. Layers above cite them as Rattle.layout.proofs.NAME.
pub mod UprightFrames
pub mod WholeFrames
pub mod WholeCursors
pub mod Seeds
pub mod Strips
mod Variants
