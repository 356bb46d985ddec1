use Rattle.layout.specs.Operations.{checked_end_row}
use Rattle.emath.specs.Refusals.{least}
use Rattle.layout.proofs.Layout.end_row.Goals as goal

pub returns : goal.returns
unfolding checked_end_row least
returns c = rw (c.changed.ensures, c.first_of-before.ensures, c.pair_fault.ensures, c.region_fault.ensures, c.end_row-new.ensures)
