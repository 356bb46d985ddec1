-- How the code reads a field, from the left in one go, and writes a number, from the right. Not part of the specification.
pub mod Scanning
pub mod Short
pub mod Writing
