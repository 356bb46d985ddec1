use Rattle.layout.specs.Operations.{checked_set_row_height}
use Rattle.emath.specs.Refusals.{least}
use Rattle.layout.proofs.Layout.set_row_height.Goals as goal

pub returns : goal.returns
unfolding checked_set_row_height least
returns c = rw (c.changed.ensures, c.first_of-before.ensures, c.length_fault.ensures, c.region_fault.ensures, c.set_row_height-new.ensures)
