use Rattle.grid.specs.Grids.{prev_col_width}
use Rattle.grid.proofs.grids.prev_col_width.Goals as goal

pub returns : goal.returns
unfolding prev_col_width
returns c = rw c.col_width.ensures
