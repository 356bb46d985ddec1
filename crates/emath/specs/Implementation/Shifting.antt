-- How the code knows a whole number: it comes back when 12582912 is added and taken away.
use Rattle.std.specs.Prelude.{false, pos, Float}
use Rattle.std.specs.Float.{fin, binary32}
use Rattle.std.specs.Float.Ieee.{add, sub, mul, div}
use Rattle.emath.specs.Steps.{tick, two}
use Rattle.emath.specs.declared.Rect.{Rect}

-- 2 ^ 23 and half of it
abbrev pub shift : Float
shift = fin false 3 (pos 22)

-- x in ticks, there and back
abbrev pub back_in_ticks : Float → Float
back_in_ticks x = div binary32 (sub binary32 (add binary32 (mul binary32 x (two tick)) shift) shift) (two tick)

abbrev pub back_rect : Rect → Rect
back_rect r = record { left = back_in_ticks r.left; top = back_in_ticks r.top; right = back_in_ticks r.right; bottom = back_in_ticks r.bottom }
