use Rattle.std.proofs.lemmas.Bool.{le-ltb, lt-ltb}
use Rattle.grid.specs.Grids.{row_ended, end_row}
use Rattle.grid.proofs.lent.end_row.Goals as goal

pub returns-then-state-lt-MAX_ROWS : goal.returns-then-state-lt-MAX_ROWS
unfolding end_row row_ended
returns-then-state-lt-MAX_ROWS c g pw ph ws hs cursor = rw (lt-ltb _ _ c.if-state-lt-MAX_ROWS.true)

pub returns : goal.returns
unfolding end_row
returns c g pw ph ws hs cursor = rw (le-ltb _ _ c.if-state-lt-MAX_ROWS.false)
