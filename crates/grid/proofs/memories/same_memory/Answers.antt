use Rattle.grid.specs.Memories.{same_memory}
use Rattle.grid.proofs.memories.same_memory.Goals as goal

pub returns : goal.returns
unfolding same_memory
returns c = rw (c.same_entries-wide.ensures, c.counted.ensures, c.counted-2.ensures, c.same_entries.ensures, c.counted-3.ensures, c.counted-4.ensures)
