use Rattle.grid.specs.Grids.{cell_height}
use Rattle.grid.proofs.grids.cell_height.Goals as goal

pub returns : goal.returns
unfolding cell_height
returns c = rw (c.at_most.ensures, c.at_least.ensures)
