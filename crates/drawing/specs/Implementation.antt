-- For the contracts of the code's parts: what a pen has written. Not part of the specification.
pub mod Pens
