use Rattle.grid.specs.Grids.{save}
use Rattle.grid.proofs.grids.save.Goals as goal

pub returns : goal.returns
unfolding save
returns c = rw c.same_memory-same.ensures
