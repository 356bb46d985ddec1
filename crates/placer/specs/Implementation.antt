-- The placer as a pass carries it, its arrays lent. Not part of the specification.
pub mod Lent
