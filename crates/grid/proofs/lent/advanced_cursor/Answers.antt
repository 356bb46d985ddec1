use Rattle.std.proofs.lemmas.Bool.{le-ltb, lt-ltb}
use Rattle.grid.specs.Memories.{col_width}
use Rattle.grid.specs.Grids.{prev_col_width, advanced, advance}
use Rattle.grid.proofs.lent.advanced_cursor.Goals as goal

pub returns-then-state-lt-MAX_ROWS : goal.returns-then-state-lt-MAX_ROWS
unfolding advance advanced prev_col_width col_width
returns-then-state-lt-MAX_ROWS c ph ws hs w = rw (lt-ltb _ _ c.if-state-lt-MAX_COLS.true, lt-ltb _ _ c.if-state-lt-MAX_ROWS.true, c.entry-width.ensures, c.counted.ensures)

pub returns-else-state-lt-MAX_ROWS : goal.returns-else-state-lt-MAX_ROWS
unfolding advance
returns-else-state-lt-MAX_ROWS c ph ws hs w = rw (lt-ltb _ _ c.if-state-lt-MAX_COLS.true, le-ltb _ _ c.if-state-lt-MAX_ROWS.false)

pub returns-else-state-lt-MAX_COLS : goal.returns-else-state-lt-MAX_COLS
unfolding advance
returns-else-state-lt-MAX_COLS c ph ws hs w = rw (le-ltb _ _ c.if-state-lt-MAX_COLS.false)
