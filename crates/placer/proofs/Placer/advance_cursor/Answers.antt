use Rattle.placer.specs.Operations.{checked_advance_cursor}
use Rattle.emath.specs.Refusals.{least}
use Rattle.emath.proofs.Refusals.{when-number}
use Rattle.placer.proofs.Placer.advance_cursor.Goals as goal

pub returns : goal.returns
unfolding checked_advance_cursor least
returns c = rw (c.changed.ensures, c.first_of.ensures, c.placer_fault.ensures, c.first_of-rest.ensures, c.then_some.ensures, when-number, c.length_fault.ensures, c.advance_cursor-new.ensures)
