-- The laws, in the order of the argument. Layers above cite them as Rattle.model.proofs.NAME.
pub mod WholeSteps
pub mod AnyNumbers
pub mod InFloats
