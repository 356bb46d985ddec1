use Rattle.layout.specs.Rules.{past_widget}
use Rattle.layout.proofs.cursors.past_widget.Goals as goal

pub returns-in-LeftToRight : goal.returns-in-LeftToRight
unfolding past_widget
returns-in-LeftToRight c = rw c.in-LeftToRight.is

pub returns-in-RightToLeft : goal.returns-in-RightToLeft
unfolding past_widget
returns-in-RightToLeft c = rw c.in-RightToLeft.is

pub returns-in-TopDown : goal.returns-in-TopDown
unfolding past_widget
returns-in-TopDown c = rw c.in-TopDown.is

pub returns-in-BottomUp : goal.returns-in-BottomUp
unfolding past_widget
returns-in-BottomUp c = rw c.in-BottomUp.is
