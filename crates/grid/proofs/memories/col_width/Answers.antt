use Rattle.grid.specs.Memories.{col_width}
use Rattle.grid.proofs.memories.col_width.Goals as goal

pub returns : goal.returns
unfolding col_width
returns c = rw (c.entry.ensures, c.counted.ensures)
