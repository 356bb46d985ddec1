use Rattle.grid.specs.Operations.{checked_end_row}
use Rattle.emath.specs.Refusals.{least}
use Rattle.emath.proofs.Refusals.{or-number, when-number}
use Rattle.grid.proofs.Answers.{moved-outcome}
use Rattle.grid.proofs.GridLayout.end_row.Goals as goal

pub returns : goal.returns
unfolding checked_end_row least
returns c = rw (c.answer.ensures, moved-outcome, c.or.ensures, or-number, c.outside-after.ensures, c.moved_fault.ensures, c.first_of-before.ensures, c.first_of.ensures, c.cursor_fault.ensures, c.grid_fault.ensures, c.first_of-place.ensures, c.then_some.ensures, when-number, c.direction_fault.ensures, c.end_row-new.ensures)
