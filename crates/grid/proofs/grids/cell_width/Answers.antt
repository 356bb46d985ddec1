use Rattle.grid.specs.Grids.{cell_width}
use Rattle.grid.proofs.grids.cell_width.Goals as goal

pub returns-then-is_last_column : goal.returns-then-is_last_column
unfolding cell_width
returns-then-is_last_column c = rw (← c.is_last_column.ensures, c.if-is_last_column.true, c.last_width.ensures)

pub returns-else-is_last_column : goal.returns-else-is_last_column
unfolding cell_width
returns-else-is_last_column c = rw (← c.is_last_column.ensures, c.if-is_last_column.false, c.other_width.ensures)
