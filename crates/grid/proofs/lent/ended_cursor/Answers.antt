use Rattle.std.proofs.lemmas.Bool.{le-ltb, lt-ltb}
use Rattle.grid.specs.Memories.{row_height}
use Rattle.grid.specs.Grids.{row_ended, end_row}
use Rattle.grid.proofs.lent.ended_cursor.Goals as goal

pub returns-then-state-lt-MAX_ROWS : goal.returns-then-state-lt-MAX_ROWS
unfolding end_row row_ended row_height
returns-then-state-lt-MAX_ROWS c pw ph ws = rw (lt-ltb _ _ c.if-state-lt-MAX_ROWS.true, c.entry-height.ensures, c.counted.ensures)

pub returns : goal.returns
unfolding end_row
returns c pw ph ws = rw (le-ltb _ _ c.if-state-lt-MAX_ROWS.false)
