use Rattle.std.specs.Float.Ieee.{of_bits, neg}
use Rattle.layout.specs.Rules.{row_started}
use Rattle.layout.proofs.cursors.row_started.Goals as goal

pub returns-in-LeftToRight : goal.returns-in-LeftToRight
unfolding row_started of_bits neg
returns-in-LeftToRight c = rw (c.in-LeftToRight.is)

pub returns-in-RightToLeft : goal.returns-in-RightToLeft
unfolding row_started of_bits neg
returns-in-RightToLeft c = rw (c.in-RightToLeft.is)

pub returns-in-TopDown : goal.returns-in-TopDown
unfolding row_started of_bits neg
returns-in-TopDown c = rw (c.in-TopDown.is)

pub returns-in-BottomUp : goal.returns-in-BottomUp
unfolding row_started of_bits neg
returns-in-BottomUp c = rw (c.in-BottomUp.is)
