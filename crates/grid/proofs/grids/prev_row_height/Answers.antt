use Rattle.grid.specs.Grids.{prev_row_height}
use Rattle.grid.proofs.grids.prev_row_height.Goals as goal

pub returns : goal.returns
unfolding prev_row_height
returns c = rw c.row_height.ensures
