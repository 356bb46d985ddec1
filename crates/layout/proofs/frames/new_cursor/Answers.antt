use Rattle.std.specs.Float.Ieee.{of_bits, neg}
use Rattle.layout.specs.Rules.{new_cursor}
use Rattle.layout.proofs.frames.new_cursor.Goals as goal

pub returns-in-LeftToRight : goal.returns-in-LeftToRight
unfolding new_cursor of_bits neg
returns-in-LeftToRight c = rw (c.in-LeftToRight.is, c.new_row-row.ensures)

pub returns-in-RightToLeft : goal.returns-in-RightToLeft
unfolding new_cursor of_bits neg
returns-in-RightToLeft c = rw (c.in-RightToLeft.is, c.new_row-row.ensures)

pub returns-in-TopDown : goal.returns-in-TopDown
unfolding new_cursor of_bits neg
returns-in-TopDown c = rw (c.in-TopDown.is, c.new_column-column.ensures)

pub returns-in-BottomUp : goal.returns-in-BottomUp
unfolding new_cursor of_bits neg
returns-in-BottomUp c = rw (c.in-BottomUp.is, c.new_column-column.ensures)
