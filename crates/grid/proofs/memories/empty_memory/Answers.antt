use Rattle.std.proofs.Common.{refl}
use Rattle.grid.specs.Entries.{zeros}
use Rattle.grid.proofs.memories.empty_memory.Goals as goal

pub returns : goal.returns
unfolding zeros
returns c = refl
