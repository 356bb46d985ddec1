use Rattle.layout.specs.Operations.{checked_advance_cursor}
use Rattle.emath.specs.Refusals.{least}
use Rattle.layout.proofs.Layout.advance_cursor.Goals as goal

pub returns : goal.returns
unfolding checked_advance_cursor least
returns c = rw (c.changed.ensures, c.first_of-before.ensures, c.length_fault.ensures, c.region_fault.ensures, c.advance_cursor-new.ensures)
