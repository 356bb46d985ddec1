-- RULES 6.19: the plate is the smallest rectangle around the frames, in steps of 1 / 2 ^ k point.
use Rattle.std.specs.Prelude.{List, ℕ, ◌≤ℤ◌}
use Rattle.sheet.specs.Pass.{Cell}
use Rattle.sheet.specs.Ticks.{Ticks, in_ticks}
use Rattle.pass_laws.specs.EachCell.{EachCell}

-- RULES 6.19: the first holds the second, which nowhere reaches beyond it
pub record Holds (outer inner : Ticks) : Type 0 where
  pub left : outer.left ≤ℤ inner.left
  pub top : outer.top ≤ℤ inner.top
  pub right : inner.right ≤ℤ outer.right
  pub bottom : inner.bottom ≤ℤ outer.bottom

-- RULES 6.19: a rectangle holds every frame
abbrev pub HoldsFrames : ℕ → Ticks → List Cell → Type 0
HoldsFrames k t cells = EachCell (λ (c : Cell). Holds t (in_ticks k c.frame)) cells

-- RULES 6.19: the smallest that does: any other that does holds it too
pub record Smallest (k : ℕ) (t : Ticks) (cells : List Cell) : Type 0 where
  pub holds : HoldsFrames k t cells
  pub least : (other : Ticks) → HoldsFrames k other cells → Holds other t
