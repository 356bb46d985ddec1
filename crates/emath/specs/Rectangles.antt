-- RULES 1: the arithmetic of rectangles, over IEEE 754 binary32 with one rounding for each operation. Low is left or top, high is right or
-- bottom.
use Rattle.std.specs.Prelude.{ℕ, ◌+◌, ◌*◌, ◌/◌, Bool, true, false, cond, ◌&&◌, pos, from_bits, nat_lt, Float}
use Rattle.std.specs.Float.{nan, inf, fin, binary32}
use Rattle.std.specs.Float.Ieee.{up, down, round, add, sub, mul, div, lt, le, eq, ne}
use Rattle.emath.specs.declared.Vec2.{Vec2}
use Rattle.emath.specs.declared.Pos2.{Pos2}
use Rattle.emath.specs.declared.Rect.{Rect}
use Rattle.emath.specs.declared.Rangef.{Rangef}
use Rattle.emath.specs.declared.Align.{Align}
use Rattle.emath.specs.declared.Align.TheVariants.{Min, Center, Max}
use Rattle.emath.specs.declared.Align2.{Align2}

-- RULES 1.1: 0, 0.5, 1 and 2, by their bits
abbrev pub zero_f : Float
zero_f = from_bits binary32 0

abbrev pub half_f : Float
half_f = from_bits binary32 0x3f000000

abbrev pub one_f : Float
one_f = from_bits binary32 0x3f800000

abbrev pub two_f : Float
two_f = from_bits binary32 0x40000000

-- RULES 1.3: of two equal numbers the first; a NaN, which alone is unlike itself, gives way to the other number
unfoldable pub min_f : Float → Float → Float
min_f a b = cond (lt b a) b (cond (ne a a) b a)

unfoldable pub max_f : Float → Float → Float
max_f a b = cond (lt a b) b (cond (ne a a) b a)

-- RULES 1.3: other names of max and min
abbrev pub at_least : Float → Float → Float
at_least = max_f

abbrev pub at_most : Float → Float → Float
at_most = min_f

-- RULES 1.5: how far it is from the low edge to the high one, across, down, and both
abbrev pub width : Rect → Float
width r = sub binary32 r.right r.left

abbrev pub height : Rect → Float
height r = sub binary32 r.bottom r.top

abbrev pub size_of : Rect → Vec2
size_of r = record { x = width r; y = height r }

-- RULES 1.6: the middle of an axis is half the sum of its two edges; that of a rectangle has both
abbrev pub centre_on : Float → Float → Float
centre_on low high = div binary32 (add binary32 low high) two_f

abbrev pub center : Rect → Pos2
center r = record { x = centre_on r.left r.right; y = centre_on r.top r.bottom }

-- RULES 1.6: fast_midpoint, which multiplies by a half
abbrev pub midpoint : Float → Float → Float
midpoint a b = mul binary32 half_f (add binary32 a b)

-- RULES 1.7: from the left top corner and a size
abbrev pub from_min_size : Pos2 → Vec2 → Rect
from_min_size p s = record { left = p.x; top = p.y; right = add binary32 p.x s.x; bottom = add binary32 p.y s.y }

-- RULES 1.7: from the middle, half the size to each side
abbrev pub from_center_size : Pos2 → Vec2 → Rect
from_center_size p s = record {
  left = sub binary32 p.x (mul binary32 half_f s.x);
  top = sub binary32 p.y (mul binary32 half_f s.y);
  right = add binary32 p.x (mul binary32 half_f s.x);
  bottom = add binary32 p.y (mul binary32 half_f s.y);
}

-- RULES 1.8: the low edges moved by d, the high ones made anew from the size
unfoldable pub translate : Rect → Vec2 → Rect
translate r d = from_min_size (record { x = add binary32 r.left d.x; y = add binary32 r.top d.y }) (size_of r)

-- RULES 1.4: at the left, in the middle of the height
abbrev pub left_center : Align2
left_center = record { x = Min; y = Center }

-- RULES 1.4: an alignment with one of its two set anew
abbrev pub with_x : Align2 → Align → Align2
with_x a x = record { x = x; y = a.y }

abbrev pub with_y : Align2 → Align → Align2
with_y a y = record { x = a.x; y = y }

-- RULES 1.9: what both cover
unfoldable pub intersect : Rect → Rect → Rect
intersect a b = record { left = max_f a.left b.left; top = max_f a.top b.top; right = min_f a.right b.right; bottom = min_f a.bottom b.bottom }

-- RULES 1.9: the least rectangle that covers both
unfoldable pub union : Rect → Rect → Rect
union a b = record { left = min_f a.left b.left; top = min_f a.top b.top; right = max_f a.right b.right; bottom = max_f a.bottom b.bottom }

-- RULES 1.10: grown as far as x, or as y
unfoldable pub extend_with_x : Rect → Float → Rect
extend_with_x r x = record { left = min_f r.left x; top = r.top; right = max_f r.right x; bottom = r.bottom }

unfoldable pub extend_with_y : Rect → Float → Rect
extend_with_y r y = record { left = r.left; top = min_f r.top y; right = r.right; bottom = max_f r.bottom y }

-- RULES 1.11: they overlap or touch, on both axes
unfoldable pub intersects : Rect → Rect → Bool
intersects a b = (le a.left b.right && le b.left a.right) && (le a.top b.bottom && le b.top a.bottom)

-- RULES 1.12: every edge further in by d
abbrev pub shrink : Rect → Float → Rect
shrink r d = record { left = add binary32 r.left d; top = add binary32 r.top d; right = sub binary32 r.right d; bottom = sub binary32 r.bottom d }

-- ---- RULES 1.13: a size aligned in the range from low to high
-- positive infinity alone
abbrev pub is_infinite : Float → Bool
is_infinite x = eq x (inf false)

-- so long, from low on
abbrev pub sized : Float → Float → Rangef
sized low size = record { min = low; max = add binary32 low size }

-- in the middle; an infinite size goes to both sides
unfoldable pub centred : Float → Float → Float → Rangef
centred low high size = cond (is_infinite size) (record { min = inf true; max = inf false }) (sized (sub binary32 (centre_on low high) (div binary32 size two_f)) size)

-- at the low end, in the middle or at the high end
unfoldable pub aligned_to : Align → Float → Float → Float → Rangef
aligned_to Min low high size = sized low size
aligned_to Center low high size = centred low high size
aligned_to Max low high size = record { min = sub binary32 high size; max = high }

-- RULES 1.13: where size and range are both infinite, the range is filled, however it is aligned
unfoldable pub align_on : Align → Float → Float → Float → Rangef
align_on a low high size = cond (is_infinite size && is_infinite (sub binary32 high low)) (record { min = low; max = high }) (aligned_to a low high size)

-- RULES 1.14: the same on both axes
unfoldable pub align_within : Align2 → Vec2 → Rect → Rect
align_within a s r = record {
  left = (align_on a.x r.left r.right s.x).min;
  top = (align_on a.y r.top r.bottom s.y).min;
  right = (align_on a.x r.left r.right s.x).max;
  bottom = (align_on a.y r.top r.bottom s.y).max;
}

-- ---- RULES 1.15: the nearest whole number
-- n / d, a half upward
abbrev pub near_up : ℕ → ℕ → ℕ
near_up n d = (n * 2 + d) / (d * 2)

-- RULES 1.15: a float, a half away from zero. A zero that comes out is +0; its sign is free (RULES 1.1).
unfoldable pub round_f : Float → Float
round_f nan = nan
round_f (inf s) = inf s
round_f (fin s m e) = round binary32 (s && nat_lt 0 (near_up (m * up e) (down e))) (near_up (m * up e) (down e)) 1

-- ---- RULES 1.16: rounding to whole steps
-- of which a point has `per`
unfoldable pub round_by : Float → Float → Float
round_by per x = div binary32 (round_f (mul binary32 x per)) per

-- at a step of 1 / 2 ^ k point
abbrev pub round_ui : ℕ → Float → Float
round_ui k x = round_by (fin false 1 (pos k)) x

-- RULES 1.16: a rectangle edge by edge
unfoldable pub round_rect : ℕ → Rect → Rect
round_rect k r = record { left = round_ui k r.left; top = round_ui k r.top; right = round_ui k r.right; bottom = round_ui k r.bottom }
