use Rattle.region.specs.Operations.{checked_expand_to_include_y}
use Rattle.emath.specs.Refusals.{least}
use Rattle.region.proofs.Region.expand_to_include_y.Goals as goal

pub returns : goal.returns
unfolding checked_expand_to_include_y least
returns c = rw (c.changed.ensures, c.first_of-before.ensures, c.length_fault.ensures, c.region_fault.ensures, c.expand_to_include_y-new.ensures)
