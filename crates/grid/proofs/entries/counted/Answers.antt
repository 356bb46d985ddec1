use Rattle.std.proofs.Common.{arith, length-take, take_all}
use Rattle.grid.specs.Memories.{capped}
use Rattle.grid.proofs.entries.counted.Goals as goal

pub slice_bounds-result-end : goal.slice_bounds-result-end
unfolding capped
slice_bounds-result-end c = grind (arith, length-take)

pub returns : goal.returns
unfolding capped
returns c = grind (arith, take_all)
