-- The laws of a drawing, in the order of the argument.
mod Pieces
pub mod Pens
pub mod Numbers
mod Ruling
mod Layers
mod Room
pub mod Sizes
mod Lengths
pub mod NearestHundredths
