use Rattle.placer.specs.Operations.{checked_advance_after_rects}
use Rattle.emath.specs.Refusals.{least}
use Rattle.placer.proofs.Placer.advance_after_rects.Goals as goal

pub returns : goal.returns
unfolding checked_advance_after_rects least
returns c = rw (c.changed.ensures, c.first_of-2.ensures, c.placer_fault.ensures, c.first_of-rects.ensures, c.first_of.ensures, c.rect_fault-2.ensures, c.rect_fault.ensures, c.first_of-room.ensures, c.advance_fault.ensures, c.pair_fault.ensures, c.advance_after_rects-new.ensures)
