use Rattle.placer.specs.Operations.{checked_set_max_height}
use Rattle.emath.specs.Refusals.{least}
use Rattle.placer.proofs.Placer.set_max_height.Goals as goal

pub returns : goal.returns
unfolding checked_set_max_height least
returns c = rw (c.changed.ensures, c.first_of.ensures, c.extent_fault.ensures, c.placer_fault.ensures, c.set_max_height-new.ensures)
