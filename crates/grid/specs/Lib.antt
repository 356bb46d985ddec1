-- grid.rs (RULES 3), in its order: lists of lengths; the memory; what the grid computes; what is refused; the public calls with the
-- refusals in front (RULES 8.16).
pub mod Entries
pub mod Memories
pub mod Grids
pub mod Refusals
pub mod Operations
-- Not part of the specification.
pub mod Implementation
