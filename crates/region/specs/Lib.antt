-- The state that layout, grid and placer work on (RULES 2.1, 2.3), in layout.rs's order: directions; what a region computes; what is
-- refused, and the answers (RULES 8); Region's public calls with the refusals in front; f32 edges; whole steps.
pub mod Directions
pub mod Regions
pub mod Refusals
pub mod Operations
pub mod Binary32
pub mod Steps
