use Rattle.region.specs.Refusals.{region_fault}
use Rattle.emath.specs.Refusals.{least}
use Rattle.region.proofs.faults.region_fault.Goals as goal

pub returns : goal.returns
unfolding region_fault least
returns c = rw (c.first_of-2.ensures, c.first_of.ensures, c.cursor_fault.ensures, c.rect_fault-2.ensures, c.rect_fault.ensures)
