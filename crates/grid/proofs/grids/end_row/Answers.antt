use Rattle.grid.proofs.grids.end_row.Goals as goal

pub returns : goal.returns
returns c = let a = c.args in let p = a.grid.prev_state in let w = a.grid.curr_state.col_widths in rw (c.whole.ensures, c.widths_of.ensures, c.heights_of-heights.ensures, c.end_row-g.ensures c.settings-b.result p.col_widths p.row_heights w a.grid.curr_state.row_heights a.cursor, c.ended_cursor-c.ensures p.col_widths p.row_heights w, c.state-s.ensures, c.settings-b.ensures, c.heights_of-heights.ensures)
