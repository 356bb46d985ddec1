use Rattle.grid.specs.Grids.{known_memory}
use Rattle.grid.proofs.grids.known_memory.Goals as goal

pub returns-then-known : goal.returns-then-known
unfolding known_memory
returns-then-known c = rw c.if-known.true

pub returns-else-known : goal.returns-else-known
unfolding known_memory
returns-else-known c = rw (c.if-known.false, c.empty_memory.ensures)
