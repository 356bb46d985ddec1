-- -0. `val` never is: it comes from a caller, from the opposite of +0, or from a zero count times a negative length. No test tells it
-- from +0, a sum takes it as +0, and rounding gives +0; min and max may hand a given one on. Assumes nothing.
use Rattle.std.proofs.Common.{◌≡◌, ℕ, suc, ◌*◌, ◌^◌, ◌≤◌, Bool, true, false, ◌&&◌, ◌||◌, eqb, ltb, ℤ, pos, negsuc, sym, refl, ap, ◌∙◌, add-zero, zero-add, zero-mul, arith, pow_pos}
use mathlib.Core.Bool.{beq}
use lib.Ieee.{round, Float, nan, inf, fin, binary32, add, sub, mul, neg, lt, le, eq, up, down, below, level}
use Rattle.emath.specs.Rectangles.{round_ui}
use Rattle.emath.specs.Steps.{val}
use Rattle.emath.proofs.Tests.{not-lt}
use Rattle.emath.proofs.Whole.{diff, whole}
use Rattle.emath.proofs.Exact.{Small, val_is}
use Rattle.emath.proofs.Values.{val-sub, times-at}
use Rattle.emath.proofs.Order.{zero-round}
use Rattle.emath.proofs.Rounding.{round-at}

abbrev pub plus_zero : Float
plus_zero = fin false 0 (pos 0)

abbrev pub minus_zero : Float
minus_zero = fin true 0 (pos 0)

pub val-zero : (k : ℕ) → val k (pos 0) ≡ plus_zero
unfolding val
val-zero k = zero-round false (2 ^ k) (pow_pos k)

-- ---- where it arises
pub neg-zero : (k : ℕ) → neg (val k (pos 0)) ≡ minus_zero
neg-zero k = ap neg (val-zero k) ∙ (unfold neg in refl)

pub zero-times-negative : (k n : ℕ) → k ≤ 149 → Small (negsuc n) → mul binary32 (val 0 (pos 0)) (val k (negsuc n)) ≡ minus_zero
zero-times-negative k n l N = times-at (val 0 (pos 0)) (val k (negsuc n)) true 0 (suc n) (2 ^ k) (pow_pos k) (val_is 0 (pos 0) (omega arith) (omega arith)) (val_is k (negsuc n) l N) ∙ ap (λ (m : ℕ). round binary32 true m (2 ^ k)) (zero-mul (suc n)) ∙ zero-round true (2 ^ k) (pow_pos k)

-- ---- no test tells the two apart
below-first : (X : ℕ) (t : Bool) (Y : ℕ) → X ≡ 0 → below true X t Y ≡ below false X t Y
below-first X true Y e = not-lt Y X (omega arith)
below-first X false Y e = rw e (ap (ltb 0) (zero-add Y))

below-second : (s : Bool) (X Y : ℕ) → Y ≡ 0 → below s X true Y ≡ below s X false Y
below-second true X Y e = rw e (ap (ltb 0) (sym (add-zero X)))
below-second false X Y e = sym (not-lt X Y (omega arith))

level-first : (X : ℕ) (t : Bool) (Y : ℕ) → X ≡ 0 → level true X t Y ≡ level false X t Y
level-first X true Y e = rw e
level-first X false Y e = rw e

level-second : (s : Bool) (X Y : ℕ) → Y ≡ 0 → level s X true Y ≡ level s X false Y
level-second s X Y e = rw e (go s (eqb X 0))
  where
    go : (s b : Bool) → b && (beq s true || b) ≡ b && (beq s false || b)
    go true true = refl
    go true false = refl
    go false true = refl
    go false false = refl

pub lt-first-zero : (y : Float) → lt minus_zero y ≡ lt plus_zero y
unfolding lt
lt-first-zero nan = refl
lt-first-zero (inf t) = refl
lt-first-zero (fin t n d) = below-first (0 * 1 * down d) t (n * up d * 1) (omega arith)

pub lt-second-zero : (x : Float) → lt x minus_zero ≡ lt x plus_zero
unfolding lt
lt-second-zero nan = refl
lt-second-zero (inf t) = refl
lt-second-zero (fin s m e) = below-second s (m * up e * 1) (0 * 1 * down e) (omega arith)

pub eq-first-zero : (y : Float) → eq minus_zero y ≡ eq plus_zero y
unfolding eq
eq-first-zero nan = refl
eq-first-zero (inf t) = refl
eq-first-zero (fin t n d) = level-first (0 * 1 * down d) t (n * up d * 1) (omega arith)

pub eq-second-zero : (x : Float) → eq x minus_zero ≡ eq x plus_zero
unfolding eq
eq-second-zero nan = refl
eq-second-zero (inf t) = refl
eq-second-zero (fin s m e) = level-second s (m * up e * 1) (0 * 1 * down e) (omega arith)

pub le-first-zero : (y : Float) → le minus_zero y ≡ le plus_zero y
unfolding le
le-first-zero y = rw (lt-first-zero y, eq-first-zero y)

pub le-second-zero : (x : Float) → le x minus_zero ≡ le x plus_zero
unfolding le
le-second-zero x = rw (lt-second-zero x, eq-second-zero x)

-- ---- added, it changes nothing; rounded, it is +0
module _ (k : ℕ) (l : k ≤ 149) (a : ℤ) (A : Small a) where
  pub add-minus-zero : add binary32 (val k a) minus_zero ≡ val k a
  add-minus-zero = less ∙ val-sub k l a (pos 0) A (omega arith) ∙ ap (val k) (omega (arith, whole, diff a (pos 0)))
    where
      less : add binary32 (val k a) minus_zero ≡ sub binary32 (val k a) (val k (pos 0))
      less = unfold sub neg in rw (val-zero k)

pub round-minus-zero : (k : ℕ) → k ≤ 149 → round_ui k minus_zero ≡ plus_zero
round-minus-zero k l = round-at k 0 minus_zero true 0 (omega arith) (omega arith) (refl, omega arith) ∙ val-zero k
