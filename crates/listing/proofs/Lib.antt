-- The laws of the list, in the order of the argument.
mod Pens
mod Puts
pub mod Texts
mod Letters
pub mod Written
pub mod Memories
pub mod Places
pub mod Printed
mod Settled
pub mod LongTexts
