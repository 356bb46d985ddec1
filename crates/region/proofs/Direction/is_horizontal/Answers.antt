use Rattle.std.proofs.Common.{inl, inr}
use Rattle.region.specs.Directions.{is_horizontal}
use Rattle.region.proofs.Direction.is_horizontal.Goals as goal

pub returns-in-LeftToRight : goal.returns-in-LeftToRight
unfolding is_horizontal
returns-in-LeftToRight c = elim c.in-LeftToRight.is [ inl e ↦ rw e | inr e ↦ rw e ]

pub returns-in-TopDown : goal.returns-in-TopDown
unfolding is_horizontal
returns-in-TopDown c = elim c.in-TopDown.is [ inl e ↦ rw e | inr e ↦ rw e ]
