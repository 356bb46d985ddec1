-- What a reader must believe of this crate (RULES 7.10): how a template is filled, where things stand on the page, and what is drawn.
pub mod Pieces
pub mod Pages
pub mod Drawings
pub mod Pictures
-- Not part of the specification.
pub mod Implementation
