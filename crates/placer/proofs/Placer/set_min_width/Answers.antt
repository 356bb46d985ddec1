use Rattle.placer.specs.Operations.{checked_set_min_width}
use Rattle.emath.specs.Refusals.{least}
use Rattle.placer.proofs.Placer.set_min_width.Goals as goal

pub returns : goal.returns
unfolding checked_set_min_width least
returns c = rw (c.changed.ensures, c.first_of.ensures, c.length_fault.ensures, c.placer_fault.ensures, c.set_min_width-new.ensures)
