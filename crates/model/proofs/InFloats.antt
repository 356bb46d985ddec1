-- f32 numbers are exact.
pub mod Ticks
pub mod Floats
pub mod InTicks
