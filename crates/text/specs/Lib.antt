-- What a reader must believe of this crate (RULES 6.1 to 6.4, 7.2): the bytes that sheets and lists are made of; what a field holds, and
-- what a number's text is; a line of a list; and the bytes of a text that a definition spells out.
pub mod Letters
pub mod Fields
pub mod Lines
pub mod Ascii
-- Not part of the specification.
pub mod Implementation
