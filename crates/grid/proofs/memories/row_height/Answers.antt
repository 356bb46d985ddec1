use Rattle.grid.specs.Memories.{row_height}
use Rattle.grid.proofs.memories.row_height.Goals as goal

pub returns : goal.returns
unfolding row_height
returns c = rw (c.entry.ensures, c.counted.ensures)
