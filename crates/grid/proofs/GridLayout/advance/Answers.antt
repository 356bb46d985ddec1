use Rattle.grid.specs.Operations.{checked_advance}
use Rattle.emath.specs.Refusals.{least}
use Rattle.emath.proofs.Refusals.{or-number, when-number}
use Rattle.grid.proofs.Answers.{moved-outcome}
use Rattle.grid.proofs.GridLayout.advance.Goals as goal

pub returns : goal.returns
unfolding checked_advance least
returns c = rw (c.answer.ensures, moved-outcome, c.or.ensures, or-number, c.outside-after.ensures, c.moved_fault.ensures, c.first_of-before.ensures, c.first_of-2.ensures, c.cursor_fault.ensures, c.grid_fault.ensures, c.first_of-rects.ensures, c.first_of.ensures, c.rect_fault-2.ensures, c.rect_fault.ensures, c.first_of-place.ensures, c.direction_fault.ensures, c.first_of-room.ensures, c.then_some-2.ensures, when-number, c.then_some.ensures, when-number, c.advance-new.ensures)
