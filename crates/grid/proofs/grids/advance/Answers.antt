use Rattle.grid.proofs.grids.advance.Goals as goal

pub returns : goal.returns
returns c = let a = c.args in let p = a.grid.prev_state in rw (c.whole.ensures, c.advance-g.ensures p.col_widths p.row_heights a.cursor, c.advanced_cursor-c.ensures p.row_heights a.grid.curr_state.col_widths a.grid.curr_state.row_heights a.widget, c.state-s.ensures, c.settings-b.ensures, c.heights_of-heights.ensures, c.widths_of-widths.ensures, c.widths_of-prev_widths.ensures)
