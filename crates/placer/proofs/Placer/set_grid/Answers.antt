use Rattle.placer.specs.Operations.{checked_set_grid}
use Rattle.emath.specs.Refusals.{least}
use Rattle.placer.proofs.Placer.set_grid.Goals as goal

pub returns : goal.returns
unfolding checked_set_grid least
returns c = rw (c.changed.ensures, c.first_of.ensures, c.placer_fault.ensures, c.first_of-rest.ensures, c.direction_fault.ensures, c.grid_fault.ensures, c.set_grid-new.ensures)
