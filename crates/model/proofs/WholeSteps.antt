-- A pass in whole steps, and what larger controls do to it.
pub mod Model
pub mod Lists
pub mod Openings
pub mod Halves
pub mod Heights
pub mod Settled
pub mod Grids
