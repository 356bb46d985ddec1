use Rattle.grid.specs.Grids.{align_size_within_rect}
use Rattle.grid.proofs.grids.align_size_within_rect.Goals as goal

pub returns : goal.returns
unfolding align_size_within_rect
returns c = rw (c.round_ui_quickly.ensures, c.align_size_within_rect.ensures)
