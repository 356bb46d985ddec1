-- RULES 1.1: which numbers of the logic an f32 holds. A `Float` may have more digits than that; an f32 of the code never has.
use Rattle.std.specs.Prelude.{T, Float}
use Rattle.std.specs.Float.{binary32}
use Rattle.std.specs.Float.Ieee.{fits}
use Rattle.emath.specs.declared.Rect.{Rect}

-- RULES 1.1: of a length, and of each edge
pub record F32 (x : Float) : Type 0 where
  pub holds : T (fits binary32 x)

pub record RectF32 (r : Rect) : Type 0 where
  pub left : F32 r.left
  pub top : F32 r.top
  pub right : F32 r.right
  pub bottom : F32 r.bottom
