use Rattle.placer.specs.Operations.{checked_expand_to_include_y}
use Rattle.emath.specs.Refusals.{least}
use Rattle.placer.proofs.Placer.expand_to_include_y.Goals as goal

pub returns : goal.returns
unfolding checked_expand_to_include_y least
returns c = rw (c.changed.ensures, c.first_of.ensures, c.length_fault.ensures, c.placer_fault.ensures, c.expand_to_include_y-new.ensures)
