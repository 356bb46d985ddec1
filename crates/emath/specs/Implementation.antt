-- How a number that is whole already is known by two sums, and what that gives; and rectangles without a NaN. Not part of the specification.
pub mod Shifting
pub mod NoNaN
