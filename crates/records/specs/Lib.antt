-- What a reader must believe of this crate: what a record says (RULES 6.5 to 6.11, 6.24, 6.25), which sheets are refused before anything is laid out
-- (RULES 8.6 to 8.8), and records as text (RULES 9.1).
pub mod Units
pub mod Conversions
pub mod Parts
pub mod Records
pub mod Headings
pub mod Sheets
pub mod Controls
pub mod Writers
-- Not part of the specification.
pub mod Implementation
