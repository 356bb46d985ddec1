use Rattle.placer.specs.Operations.{checked_expand_to_include_x}
use Rattle.emath.specs.Refusals.{least}
use Rattle.placer.proofs.Placer.expand_to_include_x.Goals as goal

pub returns : goal.returns
unfolding checked_expand_to_include_x least
returns c = rw (c.changed.ensures, c.first_of.ensures, c.length_fault.ensures, c.placer_fault.ensures, c.expand_to_include_x-new.ensures)
