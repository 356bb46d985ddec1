use Rattle.grid.specs.Memories.{col_width, row_height}
use Rattle.grid.specs.Grids.{next_cell, next_width, prev_row_height}
use Rattle.grid.proofs.lent.next_cell.Goals as goal

pub returns : goal.returns
unfolding next_cell next_width prev_row_height col_width row_height
returns c ws hs = rw (c.round_ui_quickly.ensures, c.from_min_size.ensures, c.max-2.ensures, c.max.ensures, c.entry-height.ensures, c.counted-heights.ensures, c.next_width-width.ensures)
