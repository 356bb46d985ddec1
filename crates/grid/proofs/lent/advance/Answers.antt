use Rattle.std.proofs.lemmas.Bool.{le-ltb, lt-ltb}
use Rattle.grid.specs.Grids.{advance}
use Rattle.grid.proofs.lent.advance.Goals as goal

pub returns-else-state-lt-MAX_ROWS : goal.returns-else-state-lt-MAX_ROWS
unfolding advance
returns-else-state-lt-MAX_ROWS c pw ph cursor = rw (lt-ltb _ _ c.if-state-lt-MAX_COLS.true, le-ltb _ _ c.if-state-lt-MAX_ROWS.false)

pub returns-else-state-lt-MAX_COLS : goal.returns-else-state-lt-MAX_COLS
unfolding advance
returns-else-state-lt-MAX_COLS c pw ph cursor = rw (le-ltb _ _ c.if-state-lt-MAX_COLS.false)
