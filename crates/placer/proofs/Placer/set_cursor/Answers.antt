use Rattle.placer.specs.Operations.{checked_set_cursor}
use Rattle.emath.specs.Refusals.{least}
use Rattle.placer.proofs.Placer.set_cursor.Goals as goal

pub returns : goal.returns
unfolding checked_set_cursor least
returns c = rw (c.changed.ensures, c.first_of.ensures, c.cursor_fault.ensures, c.placer_fault.ensures, c.set_cursor-new.ensures)
