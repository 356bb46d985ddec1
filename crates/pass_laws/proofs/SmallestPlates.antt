-- The plate of frames in whole steps is in whole steps, and is the smallest rectangle around them. For steps of 1 to 1/128 point. Assumes
-- nothing.
use Prim.Native.Nat.{ℕ, ◌≤◌, ◌<◌}
use mathlib.Core.Path.{◌≡◌}
use mathlib.Core.List.{List, ◌∷◌}
use native.Mathlib.Omega.{arith}
use lib.IntN.{ℤ}
use lib.ListN.{length}
use lib.Signed.{◌≤ℤ◌, ≤ℤ_refl}
use lib.Ieee.{Float}
use Rattle.emath.specs.Rectangles.{min_f, max_f, union}
use Rattle.emath.specs.Steps.{val, Edge}
use Rattle.emath.proofs.MinMax.{min-both, max-both}
use Rattle.emath.proofs.Whole.{min_z, max_z, min-is, max-is, order, whole}
use Rattle.emath.proofs.Values.{val-min, val-max}
use Rattle.emath.proofs.Casts.{points-to-steps}
use Rattle.emath.proofs.Sums.{edge-small}
use Rattle.emath.specs.declared.Rect.{Rect}
use Rattle.region.specs.Steps.{WholeRect}
use Rattle.sheet.specs.Pass.{Cell, around, plate_of}
use Rattle.sheet.specs.Ticks.{Ticks, ticks, in_ticks}
use Rattle.sheet.proofs.Plates.{zero-rect, union-whole}
use Rattle.sheet.proofs.Ticking.{steps-are}
use Rattle.pass_laws.specs.EachCell.{none, more}
use Rattle.pass_laws.specs.Plates.{Holds, HoldsFrames, Smallest}
use Rattle.pass_laws.specs.WholeCells.{WholeCells}

-- ---- rectangles that hold others
trans : {a b c : ℤ} → a ≤ℤ b → b ≤ℤ c → a ≤ℤ c
trans h k = order (omega (arith, whole))

pub holds-itself : (t : Ticks) → Holds t t
holds-itself t = record { left = ≤ℤ_refl _; top = ≤ℤ_refl _; right = ≤ℤ_refl _; bottom = ≤ℤ_refl _ }

pub holds-trans : {r s t : Ticks} → Holds r s → Holds s t → Holds r t
holds-trans a b = record {
  left = trans a.left b.left;
  top = trans a.top b.top;
  right = trans b.right a.right;
  bottom = trans b.bottom a.bottom;
}

-- ---- the union of two
-- what holds both rectangles holds it
union-least : (k : ℕ) (t : Ticks) (a b : Rect) → Holds t (in_ticks k a) → Holds t (in_ticks k b) → Holds t (in_ticks k (union a b))
unfolding union
union-least k t a b A B = record {
  left = min-both (λ (x : Float). t.left ≤ℤ ticks k x) a.left b.left A.left B.left;
  top = min-both (λ (x : Float). t.top ≤ℤ ticks k x) a.top b.top A.top B.top;
  right = max-both (λ (x : Float). ticks k x ≤ℤ t.right) a.right b.right A.right B.right;
  bottom = max-both (λ (x : Float). ticks k x ≤ℤ t.bottom) a.bottom b.bottom A.bottom B.bottom;
}

module _ (k : ℕ) (l : k ≤ 7) where
  -- the lesser is no more than either number, and the greater no less
  min-low : {x y : Float} → Edge k x → Edge k y → (ticks k (min_f x y) ≤ℤ ticks k x) × (ticks k (min_f x y) ≤ℤ ticks k y)
  min-low {x} {y} X Y =
      let A = edge-small k l X in
      let B = edge-small k l Y in
      let a = X.steps in
      let b = Y.steps in
      let m : min_f x y ≡ val k (min_z a b) = rw (X.is, Y.is) (val-min k (omega arith) a b (omega arith) (omega arith)) in
      let t : ticks k (min_f x y) ≡ min_z a b = rw m (points-to-steps k (omega arith) (min_z a b) (omega (arith, min-is a b))).1 in
      rw (t, steps-are k l x X, steps-are k l y Y) (order (omega (arith, min-is a b)), order (omega (arith, min-is a b)))

  max-high : {x y : Float} → Edge k x → Edge k y → (ticks k x ≤ℤ ticks k (max_f x y)) × (ticks k y ≤ℤ ticks k (max_f x y))
  max-high {x} {y} X Y =
      let A = edge-small k l X in
      let B = edge-small k l Y in
      let a = X.steps in
      let b = Y.steps in
      let m : max_f x y ≡ val k (max_z a b) = rw (X.is, Y.is) (val-max k (omega arith) a b (omega arith) (omega arith)) in
      let t : ticks k (max_f x y) ≡ max_z a b = rw m (points-to-steps k (omega arith) (max_z a b) (omega (arith, max-is a b))).1 in
      rw (t, steps-are k l x X, steps-are k l y Y) (order (omega (arith, max-is a b)), order (omega (arith, max-is a b)))

  -- and the union holds both
  union-holds : (a b : Rect) → WholeRect k a → WholeRect k b → Holds (in_ticks k (union a b)) (in_ticks k a) × Holds (in_ticks k (union a b)) (in_ticks k b)
  unfolding union
  union-holds a b A B =
      let left = min-low A.left B.left in
      let top = min-low A.top B.top in
      let right = max-high A.right B.right in
      let bottom = max-high A.bottom B.bottom in
      (record { left = left.0; top = top.0; right = right.0; bottom = bottom.0 }, record { left = left.1; top = top.1; right = right.1; bottom = bottom.1 })

-- ---- the union of all
module _ (k : ℕ) (l : k ≤ 7) where
  around-whole : (r : Rect) {cs : List Cell} → WholeRect k r → WholeCells k cs → WholeRect k (around r cs)
  unfolding around
  around-whole r R WholeCells.none = R
  around-whole r R (WholeCells.more {c = c} f w rest) = around-whole (union r c.frame) (union-whole k r c.frame R f) rest

  pub plate-whole : {cs : List Cell} → WholeCells k cs → WholeRect k (plate_of cs)
  unfolding plate_of
  plate-whole WholeCells.none = zero-rect k
  plate-whole (WholeCells.more {c = c} f w rest) = around-whole c.frame f rest

  around-holds : (r : Rect) {cs : List Cell} → WholeRect k r → WholeCells k cs → Holds (in_ticks k (around r cs)) (in_ticks k r) × HoldsFrames k (in_ticks k (around r cs)) cs
  unfolding around
  around-holds r R WholeCells.none = (holds-itself _, none)
  around-holds r R (WholeCells.more {c = c} f w rest) =
      let u = union-holds k l r c.frame R f in
      let h = around-holds (union r c.frame) (union-whole k r c.frame R f) rest in
      (holds-trans h.0 u.0, more (holds-trans h.0 u.1) h.1)

  around-least : (t : Ticks) (r : Rect) {cs : List Cell} → Holds t (in_ticks k r) → HoldsFrames k t cs → Holds t (in_ticks k (around r cs))
  unfolding around
  around-least t r R none = R
  around-least t r R (more {c = c} f rest) = around-least t (union r c.frame) (union-least k t r c.frame R f) rest

  pub smallest : {cs : List Cell} → WholeCells k cs → 0 < length cs → Smallest k (in_ticks k (plate_of cs)) cs
  unfolding plate_of
  smallest WholeCells.none some = absurd (omega arith)
  smallest (WholeCells.more {c = c} {cs = cs} f w rest) some =
      let h = around-holds c.frame f rest in
      record { holds = more h.0 h.1; least = least }
    where
      least : (t : Ticks) → HoldsFrames k t (c ∷ cs) → Holds t (in_ticks k (around c.frame cs))
      least t (more g others) = around-least t c.frame g others
