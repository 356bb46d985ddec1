use Rattle.placer.specs.Refusals.{placer_fault}
use Rattle.emath.specs.Refusals.{least}
use Rattle.placer.proofs.faults.placer_fault.Goals as goal

pub returns : goal.returns
unfolding placer_fault least
returns c = rw (c.first_of.ensures, c.grid_part.ensures, c.region_fault.ensures)
