use Rattle.std.proofs.Common.{◌∙◌}
use Rattle.grid.proofs.grids.next_cell.Goals as goal

pub returns : goal.returns
returns c = let s = c.args.grid.curr_state in c.next_cell.ensures s.col_widths s.row_heights ∙ rw (c.state.ensures, c.settings.ensures, c.heights_of-heights.ensures, c.widths_of-widths.ensures)
