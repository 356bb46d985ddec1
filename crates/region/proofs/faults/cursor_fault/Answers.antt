use Rattle.region.specs.Refusals.{cursor_fault}
use Rattle.region.proofs.faults.cursor_fault.Goals as goal

pub returns : goal.returns
unfolding cursor_fault
returns c = rw (c.edges_fault.ensures, c.closed_cursor.ensures)
