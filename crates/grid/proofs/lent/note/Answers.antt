use Rattle.std.proofs.lemmas.Bool.{lt-ltb}
use Rattle.grid.specs.Memories.{set_min_col_width, set_min_row_height}
use Rattle.grid.specs.Grids.{advance, advanced, noted}
use Rattle.grid.proofs.lent.note.Goals as goal

pub returns : goal.returns
unfolding advance advanced noted set_min_col_width set_min_row_height
returns c pw ph cursor = let s = c.args.state in rw (lt-ltb s.col 32 c.requires.col_bound.0, lt-ltb s.row 128 c.requires.col_bound.1, c.raise.ensures.array, c.raise.ensures.count, c.raise-2.ensures.array, c.raise-2.ensures.count, c.max-width.ensures, c.width.ensures, c.max-height.ensures, c.height.ensures)
