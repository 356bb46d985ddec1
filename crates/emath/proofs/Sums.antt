-- Sums and differences of edges, and the lesser and greater of two, are whole numbers of steps; within the limit they are edges again.
-- For steps of 1 to 1/128 point. Assumes nothing.
use Rattle.std.proofs.Common.{◌≡◌, ℕ, ◌≤◌, Bool, true, false, T, ℤ, pos, ◌+ℤ◌, ◌-ℤ◌, sym, refl, arith, pow_mono}
use lib.Ieee.{Float, inf, binary32, of_bits, add, sub, eq, ne}
use Rattle.emath.specs.Rectangles.{zero_f, min_f, max_f}
use Rattle.emath.specs.Domain.{within}
use Rattle.emath.specs.Steps.{val, most, Edge}
use Rattle.emath.proofs.Whole.{Within, within-unsigned_abs, sum, diff}
use Rattle.emath.proofs.Exact.{Small}
use Rattle.emath.proofs.Values.{val-add, val-sub, inf-lt, lt-inf, eq-inf}
use Rattle.emath.proofs.Zeros.{val-zero}
use Rattle.emath.proofs.MinMax.{min-both, max-both}
use Rattle.emath.proofs.Edges.{within-steps}

-- x is a whole number of steps, few enough that it is exact
pub record OnGrid (k : ℕ) (x : Float) : Type 0 where
  pub steps : ℤ
  pub small : Small steps
  pub is : x ≡ val k steps

module _ (k : ℕ) (l : k ≤ 7) where
  pub edge-small : {x : Float} → (e : Edge k x) → Within 8388608 e.steps
  edge-small e = let w : Within (most k) e.steps = within-unsigned_abs e.steps e.few in omega (arith, pow_mono {i = k} {j = 7} l)

  pub edge-grid : {x : Float} → Edge k x → OnGrid k x
  edge-grid e = let w = edge-small e in record { steps = e.steps; small = omega arith; is = e.is }

  pub grid-edge : {x : Float} → OnGrid k x → T (within x) → Edge k x
  grid-edge g t = record { steps = g.steps; few = within-steps k l g.steps g.small (rw g.is at t); is = g.is }

  pub grid-add : {x y : Float} → Edge k x → Edge k y → OnGrid k (add binary32 x y)
  grid-add {x} {y} a b =
      let A = edge-small a in
      let B = edge-small b in
      record { steps = a.steps +ℤ b.steps; small = omega (arith, sum a.steps b.steps); is = rw (a.is, b.is) (val-add k (omega arith) a.steps b.steps (omega arith) (omega arith)) }

  pub grid-sub : {x y : Float} → Edge k x → Edge k y → OnGrid k (sub binary32 x y)
  grid-sub {x} {y} a b =
      let A = edge-small a in
      let B = edge-small b in
      record { steps = a.steps -ℤ b.steps; small = omega (arith, diff a.steps b.steps); is = rw (a.is, b.is) (val-sub k (omega arith) a.steps b.steps (omega arith) (omega arith)) }

  pub zero-grid : OnGrid k zero_f
  zero-grid = record { steps = pos 0; small = omega arith; is = (unfold of_bits in sym (val-zero k)) }

  pub grid-min : {x y : Float} → OnGrid k x → OnGrid k y → OnGrid k (min_f x y)
  grid-min {x} {y} g h = min-both (OnGrid k) x y g h

  pub grid-max : {x y : Float} → OnGrid k x → OnGrid k y → OnGrid k (max_f x y)
  grid-max {x} {y} g h = max-both (OnGrid k) x y g h

  pub grid-not-inf : {x : Float} → OnGrid k x → (s : Bool) → eq x (inf s) ≡ false
  grid-not-inf g s = rw g.is (eq-inf k (omega arith) g.steps g.small s)

  -- an infinity outward stays
  pub max-inf : {x : Float} → OnGrid k x → max_f (inf false) x ≡ inf false
  max-inf g = unfold max_f in rw (g.is, inf-lt k (omega arith) g.steps g.small false) (unfold ne eq in refl)

  pub min-inf : {x : Float} → OnGrid k x → min_f (inf true) x ≡ inf true
  min-inf g = unfold min_f in rw (g.is, lt-inf k (omega arith) g.steps g.small true) (unfold ne eq in refl)
