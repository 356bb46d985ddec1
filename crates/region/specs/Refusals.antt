-- RULES 5.3, 8.4, 8.5: the faults of a cursor and a region; what a refused call answers; and what an answer says of a state.
use Rattle.std.specs.Prelude.{ℕ, cond, [], ◌∷◌, eqb, Float, Result, Ok, Err}
use Rattle.std.specs.Float.Ieee.{neg, eq}
use Rattle.emath.specs.Rectangles.{zero_f}
use Rattle.emath.specs.Refusals.{least, edges_fault, rect_fault, number_of}
use Rattle.region.specs.Regions.{infinity, set_left, set_top, set_right, set_bottom}
use Rattle.emath.specs.declared.Rect.{Rect}
use Rattle.emath.specs.declared.Refusal.{Refusal}
use Rattle.emath.specs.declared.Pos2.{Pos2}
use Rattle.region.specs.declared.Direction.{Direction}
use Rattle.region.specs.declared.Direction.TheVariants.{LeftToRight, RightToLeft, TopDown, BottomUp}
use Rattle.region.specs.declared.Region.{Region}
use Rattle.region.specs.declared.RegionAnswer.{RegionAnswer}
use Rattle.region.specs.declared.CursorAnswer.{CursorAnswer}

-- ---- the faults of a state
-- RULES 5.3: an open edge at its outward infinity counts as 0
unfoldable pub zero_if_open : Float → Float → Float
zero_if_open outward v = cond (eq v outward) zero_f v

unfoldable pub closed : Direction → Rect → Rect
closed LeftToRight c = set_right c (zero_if_open infinity c.right)
closed RightToLeft c = set_left c (zero_if_open (neg infinity) c.left)
closed TopDown c = set_bottom c (zero_if_open infinity c.bottom)
closed BottomUp c = set_top c (zero_if_open (neg infinity) c.top)

-- RULES 8.5: of a cursor its edges count, and it may be inside out; a region has the faults of all three rectangles
unfoldable pub cursor_fault : Direction → Rect → ℕ
cursor_fault d c = edges_fault (closed d c)

unfoldable pub region_fault : Direction → Region → ℕ
region_fault d g = least (rect_fault g.min_rect ∷ rect_fault g.max_rect ∷ cursor_fault d g.cursor ∷ [])

-- ---- RULES 8.4: what a refused call answers, with its number
-- zeros
abbrev pub zero_rect : Rect
zero_rect = record { left = zero_f; top = zero_f; right = zero_f; bottom = zero_f }

abbrev pub zero_pos : Pos2
zero_pos = record { x = zero_f; y = zero_f }

abbrev pub zero_region : Region
zero_region = record { min_rect = zero_rect; max_rect = zero_rect; cursor = zero_rect }

-- the number, and the state: the new one, or the one that was given
unfoldable pub region_answer : ℕ → Region → Region → RegionAnswer
region_answer n given new = record { number = n; region = cond (eqb n 0) new given }

unfoldable pub cursor_answer : ℕ → Rect → Rect → CursorAnswer
cursor_answer n given new = record { number = n; cursor = cond (eqb n 0) new given }

-- RULES 8.1, 8.4: what an answer says, where this state was given
abbrev pub region_outcome : Region → Result Region Refusal → RegionAnswer
region_outcome given (Ok g) = record { number = 0; region = g }
region_outcome given (Err e) = record { number = number_of e; region = given }

abbrev pub cursor_outcome : Rect → Result Rect Refusal → CursorAnswer
cursor_outcome given (Ok c) = record { number = 0; cursor = c }
cursor_outcome given (Err e) = record { number = number_of e; cursor = given }
