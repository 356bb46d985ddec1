use Rattle.grid.specs.Grids.{new_grid}
use Rattle.grid.proofs.grids.new_grid.Goals as goal

pub returns : goal.returns
unfolding new_grid
returns c = rw (c.intersect-available.ensures, c.empty_memory-curr.ensures, c.known_memory-prev.ensures)
