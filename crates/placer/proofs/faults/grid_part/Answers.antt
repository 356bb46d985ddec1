use Rattle.placer.specs.Refusals.{grid_part}
use Rattle.emath.specs.Refusals.{least}
use Rattle.placer.proofs.faults.grid_part.Goals as goal

pub returns-then-placer : goal.returns-then-placer
unfolding grid_part least
returns-then-placer c = rw (c.if-placer.true, c.first_of.ensures, c.direction_fault.ensures, c.grid_fault.ensures)

pub returns : goal.returns
unfolding grid_part least
returns c = rw c.if-placer.false
