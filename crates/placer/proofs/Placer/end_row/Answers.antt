use Rattle.placer.specs.Operations.{checked_end_row}
use Rattle.emath.specs.Refusals.{least}
use Rattle.placer.proofs.Placer.end_row.Goals as goal

pub returns : goal.returns
unfolding checked_end_row least
returns c = rw (c.changed.ensures, c.first_of.ensures, c.placer_fault.ensures, c.first_of-rest.ensures, c.end_row_fault.ensures, c.pair_fault.ensures, c.end_row-new.ensures)
