use Rattle.grid.specs.Grids.{last_width}
use Rattle.grid.proofs.grids.last_width.Goals as goal

pub returns-then-grid : goal.returns-then-grid
unfolding last_width
returns-then-grid c = rw (c.if-grid.true, c.col_width.ensures)

pub returns : goal.returns
unfolding last_width
returns c = rw (c.if-grid.false, c.at_most.ensures)
