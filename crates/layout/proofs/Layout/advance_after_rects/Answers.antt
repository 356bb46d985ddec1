use Rattle.layout.specs.Operations.{checked_advance_after_rects}
use Rattle.emath.specs.Refusals.{least}
use Rattle.region.proofs.Answers.{cursor-outcome}
use Rattle.emath.proofs.Refusals.{or-number}
use Rattle.layout.proofs.Layout.advance_after_rects.Goals as goal

pub returns : goal.returns
unfolding checked_advance_after_rects least
returns c = rw (c.answer.ensures, cursor-outcome, c.or.ensures, or-number, c.outside-after.ensures, c.cursor_fault-2.ensures, c.first_of-before.ensures, c.cursor_fault.ensures, c.first_of-rects.ensures, c.rect_fault-2.ensures, c.first_of-rest.ensures, c.pair_fault.ensures, c.rect_fault.ensures, c.advance_after_rects-new.ensures)
