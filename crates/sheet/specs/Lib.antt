-- What a reader must believe of this crate: what a pass over a sheet gives, and what the call does with its slice (RULES 6.12 to 6.21,
-- 8.3, 8.18, 8.19).
pub mod Pass
pub mod WidgetCalls
pub mod Passes
pub mod Texts
pub mod Ticks
pub mod Slices
-- Not part of the specification.
pub mod Implementation
