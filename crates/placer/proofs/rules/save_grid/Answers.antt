use Rattle.placer.specs.Rules.{save_grid}
use Rattle.placer.proofs.rules.save_grid.Goals as goal

pub returns-then-placer : goal.returns-then-placer
unfolding save_grid
returns-then-placer c = rw (c.if-placer.true, c.save.ensures)

pub returns : goal.returns
unfolding save_grid
returns c = rw (c.if-placer.false, c.empty_memory.ensures)
