use Rattle.std.proofs.Common.{arith}
use Rattle.grid.specs.Memories.{raised_count}
use Rattle.grid.proofs.memories.raised_count.Goals as goal

pub returns : goal.returns
unfolding raised_count
returns c = grind arith
