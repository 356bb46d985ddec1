-- What a reader must believe of this crate: what each call answers, and leaves in the caller's memory (RULES 7.11).
pub mod Calls
