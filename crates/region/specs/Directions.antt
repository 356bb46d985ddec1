-- RULES 2.1: Direction.
use Rattle.std.specs.Prelude.{Bool, true, false}
use Rattle.region.specs.declared.Direction.{Direction}
use Rattle.region.specs.declared.Direction.TheVariants.{LeftToRight, RightToLeft, TopDown, BottomUp}

-- RULES 2.1: frames follow each other across, and not down
unfoldable pub is_horizontal : Direction → Bool
is_horizontal LeftToRight = true
is_horizontal RightToLeft = true
is_horizontal TopDown = false
is_horizontal BottomUp = false
