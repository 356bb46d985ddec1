-- RULES 5, the domain: which lengths there may be, and when a size or a rectangle is at fault.
use Rattle.std.specs.Prelude.{Bool, true, false, ◌&&◌, ◌||◌, from_bits, Float}
use Rattle.std.specs.Float.{nan, inf, fin, binary32}
use Rattle.std.specs.Float.Ieee.{neg, lt, le}
use Rattle.emath.specs.Rectangles.{zero_f}
use Rattle.emath.specs.declared.Vec2.{Vec2}
use Rattle.emath.specs.declared.Rect.{Rect}

-- RULES 5.1: neither NaN nor an infinity
unfoldable pub finite : Float → Bool
finite nan = false
finite (inf s) = false
finite (fin s m e) = true

-- RULES 5.2: 65,536 points to either side of zero; the limit itself is inside
abbrev pub limit : Float
limit = from_bits binary32 0x47800000

unfoldable pub within : Float → Bool
within x = le (neg limit) x && le x limit

-- RULES 5.1: such a test of both parts of a size or a position, and of all four edges
unfoldable pub both_of : (Float → Bool) → Float → Float → Bool
both_of t x y = t x && t y

unfoldable pub edges_of : (Float → Bool) → Rect → Bool
edges_of t r = t r.left && (t r.top && (t r.right && t r.bottom))

-- RULES 5.4: a size is negative where a part of it is
unfoldable pub negative : Vec2 → Bool
negative v = lt v.x zero_f || lt v.y zero_f

-- RULES 5.4: both parts are at least zero; with a NaN a size may be neither this nor negative
unfoldable pub at_least_zero : Vec2 → Bool
at_least_zero v = le zero_f v.x && le zero_f v.y

-- RULES 5.4: a high edge is less than its low one
unfoldable pub inside_out : Rect → Bool
inside_out r = lt r.right r.left || lt r.bottom r.top

-- RULES 5.4: each high edge is at least its low one; with a NaN a rectangle may be neither this nor inside out
unfoldable pub upright : Rect → Bool
upright r = le r.left r.right && le r.top r.bottom
