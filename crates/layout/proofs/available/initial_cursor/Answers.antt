use Rattle.std.specs.Float.Ieee.{of_bits, neg}
use Rattle.layout.specs.Rules.{initial_cursor}
use Rattle.layout.proofs.available.initial_cursor.Goals as goal

pub returns-in-LeftToRight : goal.returns-in-LeftToRight
unfolding initial_cursor of_bits neg
returns-in-LeftToRight c = rw (c.in-LeftToRight.is)

pub returns-in-RightToLeft : goal.returns-in-RightToLeft
unfolding initial_cursor of_bits neg
returns-in-RightToLeft c = rw (c.in-RightToLeft.is)

pub returns-in-TopDown : goal.returns-in-TopDown
unfolding initial_cursor of_bits neg
returns-in-TopDown c = rw (c.in-TopDown.is)

pub returns-in-BottomUp : goal.returns-in-BottomUp
unfolding initial_cursor of_bits neg
returns-in-BottomUp c = rw (c.in-BottomUp.is)
