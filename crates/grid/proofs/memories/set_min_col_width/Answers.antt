use Rattle.std.proofs.lemmas.Bool.{le-ltb, lt-ltb}
use Rattle.grid.specs.Memories.{set_min_col_width}
use Rattle.grid.proofs.memories.set_min_col_width.Goals as goal

pub returns-then-col-lt-MAX_COLS : goal.returns-then-col-lt-MAX_COLS
unfolding set_min_col_width
returns-then-col-lt-MAX_COLS c = rw (lt-ltb _ _ c.if-col-lt-MAX_COLS.true, c.raise-n.ensures.array, c.raise-n.ensures.count)

pub returns : goal.returns
unfolding set_min_col_width
returns c = rw (le-ltb _ _ c.if-col-lt-MAX_COLS.false)
