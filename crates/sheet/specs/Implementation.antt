-- For the contracts of the call's parts: how the code goes through a text. Not part of the specification.
pub mod Calls
pub mod Walks
