-- The laws, in the order of the argument. Layers above cite them as Rattle.region.proofs.NAME.
pub mod Answers
pub mod WholeRegions
