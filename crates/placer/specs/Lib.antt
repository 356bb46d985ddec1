-- placer.rs (RULES 4), in its order: what the calls compute; what is refused; the public calls with the refusals in front (RULES 8.17);
-- that no frame is inside out (RULES 8.14); whole steps.
pub mod Rules
pub mod Refusals
pub mod Operations
pub mod Frames
pub mod Steps
-- Not part of the specification.
pub mod Implementation
