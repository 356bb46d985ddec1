use Rattle.grid.specs.Grids.{available_rect}
use Rattle.grid.proofs.grids.available_rect.Goals as goal

pub returns : goal.returns
unfolding available_rect
returns c = rw (c.from_min_size.ensures, c.cell_height-height.ensures, c.intersect-available.ensures, c.max-width.ensures, c.col_width.ensures, c.cell_width.ensures)
