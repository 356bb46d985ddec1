-- What a reader must believe of this crate: RULES 1 (Rectangles, Binary32, Steps), RULES 5 (Domain), and RULES 8 for lengths, sizes and
-- rectangles (Numbers, Refusals).
pub mod Rectangles
pub mod Binary32
pub mod Domain
pub mod Numbers
pub mod Refusals
pub mod Steps
-- Not part of the specification.
pub mod Implementation
