-- RULES 6.18, 10.4: rectangles in ticks, as the slice and the list show them; or in any steps of 1 / 2 ^ k point.
use Rattle.std.specs.Prelude.{ℕ, ℤ, ◌-ℤ◌, Float}
use Rattle.std.specs.Float.{binary32}
use Rattle.std.specs.Float.Ieee.{mul, to_signed}
use Rattle.emath.specs.Steps.{two}
use Rattle.emath.specs.declared.Rect.{Rect}

-- ---- RULES 6.18: lengths and rectangles in steps
pub record Ticks : Type 0 where
  pub left : ℤ
  pub top : ℤ
  pub right : ℤ
  pub bottom : ℤ

-- a length × 2 ^ k, as an i32
abbrev pub ticks : ℕ → Float → ℤ
ticks k x = to_signed 31 (mul binary32 x (two k))

abbrev pub in_ticks : ℕ → Rect → Ticks
in_ticks k r = record { left = ticks k r.left; top = ticks k r.top; right = ticks k r.right; bottom = ticks k r.bottom }

-- ---- RULES 10.4: how wide and how tall
abbrev pub width : Ticks → ℤ
width t = t.right -ℤ t.left

abbrev pub height : Ticks → ℤ
height t = t.bottom -ℤ t.top
