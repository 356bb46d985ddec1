-- What src/unions.rt asks: a rectangle without a NaN.
use Rattle.std.specs.Prelude.{◌≡◌, false, Float}
use Rattle.std.specs.Float.Ieee.{ne}
use Rattle.emath.specs.declared.Rect.{Rect}

-- a NaN differs from itself
abbrev pub IsNumber : Float → Type 0
IsNumber x = ne x x ≡ false

pub record Numbers (r : Rect) : Type 0 where
  pub left : IsNumber r.left
  pub top : IsNumber r.top
  pub right : IsNumber r.right
  pub bottom : IsNumber r.bottom
