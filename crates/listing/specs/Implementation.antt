-- For the contracts of the code's parts: how it writes a list, line after line. Not part of the specification.
pub mod ListWriter
pub mod Pens
