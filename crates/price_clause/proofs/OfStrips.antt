-- Strips.
mod StripPlaces
mod StripSteps
pub mod Strips
pub mod StripWidths
