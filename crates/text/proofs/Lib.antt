-- The laws of fields. Layers above cite them as Rattle.text.proofs.NAME.
mod Columns
mod Writing
mod Outcomes
pub mod RoundTrip
mod ScanSound
mod Scanned
mod ScanTurns
mod ShortReads
pub mod Signs
pub mod LineTexts
