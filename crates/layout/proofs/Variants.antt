-- A test for one variant is the rule's. Assumes nothing.
use Rattle.std.proofs.Common.{◌≡◌, refl}
use denote.Enum.Bare.{sameb}
use Rattle.emath.specs.contracts.Align as align
use Rattle.emath.specs.declared.Align.{Align}
use Rattle.emath.specs.declared.Align.TheVariants.{Min, Center, Max}
use Rattle.region.specs.contracts.Direction as direction
use Rattle.region.specs.declared.Direction.{Direction}
use Rattle.region.specs.declared.Direction.TheVariants.{LeftToRight, RightToLeft, TopDown, BottomUp}
use Rattle.layout.specs.Layouts.{is_center, is_max, is_right_to_left}

pub same-center : (a : Align) → sameb align.the_type a Center ≡ is_center a
unfolding is_center
same-center Min = refl
same-center Center = refl
same-center Max = refl

pub same-max : (a : Align) → sameb align.the_type a Max ≡ is_max a
unfolding is_max
same-max Min = refl
same-max Center = refl
same-max Max = refl

pub same-right-to-left : (d : Direction) → sameb direction.the_type d RightToLeft ≡ is_right_to_left d
unfolding is_right_to_left
same-right-to-left LeftToRight = refl
same-right-to-left RightToLeft = refl
same-right-to-left TopDown = refl
same-right-to-left BottomUp = refl
