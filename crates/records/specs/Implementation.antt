-- The cache of W sizes, for speed. Not part of the specification.
pub mod SizeCache
