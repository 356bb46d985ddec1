use Rattle.layout.specs.Rules.{overflows}
use Rattle.layout.proofs.frames.overflows_main.Goals as goal

pub returns-in-LeftToRight : goal.returns-in-LeftToRight
unfolding overflows
returns-in-LeftToRight c = rw c.in-LeftToRight.is

pub returns-in-RightToLeft : goal.returns-in-RightToLeft
unfolding overflows
returns-in-RightToLeft c = rw c.in-RightToLeft.is

pub returns-in-TopDown : goal.returns-in-TopDown
unfolding overflows
returns-in-TopDown c = rw c.in-TopDown.is

pub returns-in-BottomUp : goal.returns-in-BottomUp
unfolding overflows
returns-in-BottomUp c = rw c.in-BottomUp.is
