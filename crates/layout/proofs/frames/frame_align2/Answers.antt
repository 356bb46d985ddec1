use Rattle.layout.specs.Rules.{frame_align2}
use Rattle.layout.proofs.frames.frame_align2.Goals as goal

pub returns-in-LeftToRight : goal.returns-in-LeftToRight
unfolding frame_align2
returns-in-LeftToRight c = rw (c.in-LeftToRight.is, c.with_x.ensures)

pub returns-in-RightToLeft : goal.returns-in-RightToLeft
unfolding frame_align2
returns-in-RightToLeft c = rw (c.in-RightToLeft.is, c.with_x-in-RightToLeft.ensures)

pub returns-in-TopDown : goal.returns-in-TopDown
unfolding frame_align2
returns-in-TopDown c = rw (c.in-TopDown.is, c.with_y.ensures)

pub returns-in-BottomUp : goal.returns-in-BottomUp
unfolding frame_align2
returns-in-BottomUp c = rw (c.in-BottomUp.is, c.with_y-in-BottomUp.ensures)
