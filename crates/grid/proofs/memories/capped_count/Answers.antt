use Rattle.std.proofs.Common.{arith}
use Rattle.grid.specs.Memories.{capped}
use Rattle.grid.proofs.memories.capped_count.Goals as goal

pub returns : goal.returns
unfolding capped
returns c = grind arith
