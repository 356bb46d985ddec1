-- RULES 8.15 for Region's public calls: the least number that applies to the arguments, or else to the answer, or else what the rule gives.
use Rattle.std.specs.Prelude.{ℕ, [], ◌∷◌, Float}
use Rattle.emath.specs.Refusals.{least, or_else, length_fault, edges_fault, rect_fault, outside}
use Rattle.region.specs.Regions.{expand_to_include_rect, expand_to_include_x, expand_to_include_y}
use Rattle.region.specs.Refusals.{region_fault, region_answer}
use Rattle.emath.specs.declared.Rect.{Rect}
use Rattle.region.specs.declared.Direction.{Direction}
use Rattle.region.specs.declared.Region.{Region}
use Rattle.region.specs.declared.RegionAnswer.{RegionAnswer}

-- ---- the number of a call: the arguments', or else the answer's
-- RULES 8.13: of a rectangle, 9 for a fault of its edges
unfoldable pub placed_number : ℕ → Rect → ℕ
placed_number before r = or_else before (outside (edges_fault r))

-- RULES 8.13: a new region, or the given one where a number applies
unfoldable pub changed_region : Direction → ℕ → Region → Region → RegionAnswer
changed_region d before given new = region_answer (or_else before (outside (region_fault d new))) given new

-- ---- RULES 8.15, Region: the direction says which edge of its cursor is open
unfoldable pub checked_expand_to_include_rect : Direction → Region → Rect → RegionAnswer
checked_expand_to_include_rect d g r = changed_region d (least (region_fault d g ∷ rect_fault r ∷ [])) g (expand_to_include_rect g r)

unfoldable pub checked_expand_to_include_x : Direction → Region → Float → RegionAnswer
checked_expand_to_include_x d g x = changed_region d (least (region_fault d g ∷ length_fault x ∷ [])) g (expand_to_include_x g x)

unfoldable pub checked_expand_to_include_y : Direction → Region → Float → RegionAnswer
checked_expand_to_include_y d g y = changed_region d (least (region_fault d g ∷ length_fault y ∷ [])) g (expand_to_include_y g y)
