use Rattle.layout.specs.Rules.{from_cursor}
use Rattle.layout.proofs.available.from_cursor.Goals as goal

pub returns-in-LeftToRight : goal.returns-in-LeftToRight
unfolding from_cursor
returns-in-LeftToRight c = rw (c.in-LeftToRight.is, c.max-in-LeftToRight-2.ensures, c.max-in-LeftToRight.ensures, c.max.ensures)

pub returns-in-RightToLeft : goal.returns-in-RightToLeft
unfolding from_cursor
returns-in-RightToLeft c = rw (c.in-RightToLeft.is, c.max-in-RightToLeft.ensures, c.min-in-RightToLeft.ensures, c.min.ensures)

pub returns-in-TopDown : goal.returns-in-TopDown
unfolding from_cursor
returns-in-TopDown c = rw (c.in-TopDown.is, c.max-in-TopDown-3.ensures, c.max-in-TopDown-2.ensures, c.max-in-TopDown.ensures)

pub returns-in-BottomUp : goal.returns-in-BottomUp
unfolding from_cursor
returns-in-BottomUp c = rw (c.in-BottomUp.is, c.max-in-BottomUp.ensures, c.min-in-BottomUp-2.ensures, c.min-in-BottomUp.ensures)
