use Rattle.layout.specs.Rules.{advance_cursor}
use Rattle.layout.proofs.cursors.advance_cursor.Goals as goal

pub returns-in-LeftToRight : goal.returns-in-LeftToRight
unfolding advance_cursor
returns-in-LeftToRight c = rw (c.in-LeftToRight.is, c.expand_to_include_x.ensures, c.with_cursor.ensures)

pub returns-in-RightToLeft : goal.returns-in-RightToLeft
unfolding advance_cursor
returns-in-RightToLeft c = rw (c.in-RightToLeft.is, c.expand_to_include_x-in-RightToLeft.ensures, c.with_cursor-in-RightToLeft.ensures)

pub returns-in-TopDown : goal.returns-in-TopDown
unfolding advance_cursor
returns-in-TopDown c = rw (c.in-TopDown.is, c.expand_to_include_y.ensures, c.with_cursor-in-TopDown.ensures)

pub returns-in-BottomUp : goal.returns-in-BottomUp
unfolding advance_cursor
returns-in-BottomUp c = rw (c.in-BottomUp.is, c.expand_to_include_y-in-BottomUp.ensures, c.with_cursor-in-BottomUp.ensures)
