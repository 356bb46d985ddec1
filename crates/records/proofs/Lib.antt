-- The laws of records. Layers above cite them as Rattle.records.proofs.NAME.
mod Lengths
pub mod Places
mod HeadingFaults
pub mod Hundredths
mod HundredthTicks
pub mod Reached
mod RecordPrefixes
pub mod Prefixes
pub mod Checks
pub mod SizeCache
pub mod Controls
