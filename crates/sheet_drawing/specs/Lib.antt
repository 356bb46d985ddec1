-- What a reader must believe of this crate: what the drawing of a sheet is, and when the numbers that a drawing takes from a list are those of a pass (RULES 7.10).
pub mod SheetDrawings
pub mod Shown
