-- What a reader must believe of this crate: the list of a sheet (RULES 7.1, 7.3 to 7.7).
pub mod Lists
-- Not part of the specification.
pub mod Implementation
