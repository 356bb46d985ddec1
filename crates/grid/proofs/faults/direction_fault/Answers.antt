use Rattle.grid.specs.Refusals.{direction_fault}
use Rattle.emath.proofs.Refusals.{when-number}
use Rattle.grid.proofs.faults.direction_fault.Goals as goal

pub returns : goal.returns
unfolding direction_fault
returns c = rw (c.then_some.ensures, when-number, c.fits_grid.ensures)
