use Rattle.grid.specs.Memories.{col_width}
use Rattle.grid.specs.Grids.{next_width}
use Rattle.grid.proofs.lent.next_width.Goals as goal

pub returns-then-grid : goal.returns-then-grid
unfolding next_width
returns-then-grid c = rw c.if-grid.true

pub returns : goal.returns
unfolding next_width col_width
returns c = rw (c.if-grid.false, c.entry.ensures, c.counted.ensures)
