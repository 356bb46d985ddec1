-- What a pass gathers of its plate is in whole ticks, and so has no NaN; a union of rectangles in whole steps is in whole steps. Assumes
-- nothing.
use Prim.Native.Nat.{ℕ, ◌<◌}
use mathlib.Core.Path.{◌≡◌, refl, sym}
use mathlib.Core.Bool.{Bool, true, false, cond}
use native.Mathlib.Omega.{arith}
use lib.Dec.{ltb}
use borrow.Author.Tests.{ltb-false}
use lib.IntN.{pos}
use lib.Ieee.{Float, of_bits}
use Rattle.emath.specs.Rectangles.{zero_f, union}
use Rattle.emath.specs.Steps.{tick, Edge}
use Rattle.emath.specs.Implementation.NoNaN.{IsNumber, Numbers}
use Rattle.emath.proofs.MinMax.{min-both, max-both}
use Rattle.emath.proofs.Edges.{edge-within}
use Rattle.emath.proofs.Refusals.{no_nan}
use Rattle.emath.proofs.Zeros.{val-zero}
use Rattle.emath.specs.declared.Rect.{Rect}
use Rattle.region.specs.Refusals.{zero_rect}
use Rattle.region.specs.Steps.{WholeRect}
use Rattle.sheet.specs.Implementation.Walks.{joined, plate_with}

-- ---- zeros
pub zero-edge : (k : ℕ) → Edge k zero_f
unfolding of_bits
zero-edge k = record { steps = pos 0; few = omega arith; is = sym (val-zero k) }

pub zero-rect : (k : ℕ) → WholeRect k zero_rect
zero-rect k = let e = zero-edge k in record { left = e; top = e; right = e; bottom = e }

-- ---- one frame more
-- what is in whole ticks of the domain has no NaN
pub rect-numbers : {r : Rect} → WholeRect tick r → Numbers r
rect-numbers {r} w = record { left = number w.left; top = number w.top; right = number w.right; bottom = number w.bottom }
  where
    number : {x : Float} → Edge tick x → IsNumber x
    number {x} e = no_nan x (edge-within tick (omega arith) x e)

pub union-whole : (k : ℕ) (a b : Rect) → WholeRect k a → WholeRect k b → WholeRect k (union a b)
unfolding union
union-whole k a b A B = record {
  left = min-both (Edge k) a.left b.left A.left B.left;
  top = min-both (Edge k) a.top b.top A.top B.top;
  right = max-both (Edge k) a.right b.right A.right B.right;
  bottom = max-both (Edge k) a.bottom b.bottom A.bottom B.bottom;
}

joined-whole : {plate frame : Rect} (w : ℕ) → WholeRect tick plate → WholeRect tick frame → WholeRect tick (joined plate w frame)
unfolding joined
joined-whole {plate} {frame} w P F = go (ltb w 1)
  where
    go : (b : Bool) → WholeRect tick (cond b frame (union plate frame))
    go true = F
    go false = union-whole tick plate frame P F

pub with-whole : {plate frame : Rect} (w placed : ℕ) → WholeRect tick plate → (0 < placed → WholeRect tick frame) → WholeRect tick (plate_with plate w placed frame)
unfolding plate_with
with-whole {plate} {frame} w placed P F = go (ltb placed 1) refl
  where
    go : (b : Bool) → ltb placed 1 ≡ b → WholeRect tick (cond b plate (joined plate w frame))
    go true e = P
    go false e = joined-whole w P (F (ltb-false placed 1 e))
