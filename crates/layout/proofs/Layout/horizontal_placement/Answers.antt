use Rattle.std.proofs.Common.{inl, inr}
use Rattle.layout.specs.Layouts.{placement}
use Rattle.layout.proofs.Layout.horizontal_placement.Goals as goal

pub returns-in-LeftToRight : goal.returns-in-LeftToRight
unfolding placement
returns-in-LeftToRight c = rw c.in-LeftToRight.is

pub returns-in-RightToLeft : goal.returns-in-RightToLeft
unfolding placement
returns-in-RightToLeft c = rw c.in-RightToLeft.is

pub returns-in-TopDown : goal.returns-in-TopDown
unfolding placement
returns-in-TopDown c = elim c.in-TopDown.is [ inl e ↦ rw e | inr e ↦ rw e ]
