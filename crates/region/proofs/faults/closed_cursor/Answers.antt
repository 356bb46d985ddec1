use Rattle.std.specs.Float.Ieee.{of_bits, neg}
use Rattle.region.specs.Refusals.{closed}
use Rattle.region.proofs.faults.closed_cursor.Goals as goal

pub returns-in-LeftToRight : goal.returns-in-LeftToRight
unfolding closed of_bits neg
returns-in-LeftToRight c = rw (c.in-LeftToRight.is, c.zero_if_open.ensures)

pub returns-in-RightToLeft : goal.returns-in-RightToLeft
unfolding closed of_bits neg
returns-in-RightToLeft c = rw (c.in-RightToLeft.is, c.zero_if_open-in-RightToLeft.ensures)

pub returns-in-TopDown : goal.returns-in-TopDown
unfolding closed of_bits neg
returns-in-TopDown c = rw (c.in-TopDown.is, c.zero_if_open-in-TopDown.ensures)

pub returns-in-BottomUp : goal.returns-in-BottomUp
unfolding closed of_bits neg
returns-in-BottomUp c = rw (c.in-BottomUp.is, c.zero_if_open-in-BottomUp.ensures)
