use Rattle.std.proofs.lemmas.Bool.{le-ltb, lt-ltb}
use Rattle.grid.specs.Memories.{set_min_row_height}
use Rattle.grid.proofs.memories.set_min_row_height.Goals as goal

pub returns-then-row-lt-MAX_ROWS : goal.returns-then-row-lt-MAX_ROWS
unfolding set_min_row_height
returns-then-row-lt-MAX_ROWS c = rw (lt-ltb _ _ c.if-row-lt-MAX_ROWS.true, c.raise-n.ensures.array, c.raise-n.ensures.count)

pub returns : goal.returns
unfolding set_min_row_height
returns c = rw (le-ltb _ _ c.if-row-lt-MAX_ROWS.false)
