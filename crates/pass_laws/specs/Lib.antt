-- The words of the laws about passes: whole steps (RULES 6.22), the smallest rectangle around the frames (RULES 6.19), the controls of a
-- column (RULES 10.7), where a W finds the cursor (RULES 10.8, 10.9), rectangles that are upright and a W's calls (RULES 8.14, 8.18).
pub mod WholeSheets
pub mod WholeCells
pub mod Plates
pub mod Columns
pub mod Tops
pub mod EachCell
pub mod Upright
