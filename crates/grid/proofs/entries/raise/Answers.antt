use Rattle.grid.specs.Entries.{raised}
use Rattle.grid.proofs.entries.raise.Goals as goal

pub returns-clause-array : goal.returns-clause-array
unfolding raised
returns-clause-array c = rw (c.clear.ensures, c.max-raised.ensures, c.entry.ensures, c.counted.ensures)
