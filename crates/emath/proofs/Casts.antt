-- Casts between i32, f32 and steps: what fits, what the machine reads back, and that whole steps go to points and back exactly. Assumes nothing.
use Rattle.std.proofs.Common.{◌≡◌, ℕ, ◌^◌, ◌<◌, ◌≤◌, T, ℤ, pos, negsuc, nat_abs, sym, refl, ap, ◌∙◌, add-zero, arith, le→leb, lt→ltb, to_z-of_z, w32, SFits, to_z, of_z}
use lib.Ieee.{binary32, in_float, of_int, in_signed, to_signed, mul, div}
use lib.Ieee.Back.{positive_back, negative_back}
use Rattle.emath.specs.Steps.{two, val}
use Rattle.emath.proofs.Whole.{Within, unsigned_abs-within}
use Rattle.emath.proofs.Exact.{Small}
use Rattle.emath.proofs.Values.{val-mul, val-div}

pub fits32 : {n : ℕ} {z : ℤ} → n < 2147483648 → Within n z → SFits w32 z
fits32 {n} {z = pos a} l h = record { sfits = omega arith }
fits32 {n} {z = negsuc a} l h = record { sfits = omega arith }

-- what the machine reads back
pub back32 : {n : ℕ} {z : ℤ} → n < 2147483648 → Within n z → to_z w32 (of_z w32 z) ≡ z
back32 {n} {z} l h = to_z-of_z (fits32 l h)

pub float32 : (z : ℤ) → Within 16777216 z → T (in_float binary32 z)
unfolding in_float
float32 (pos a) h = le→leb a 16777216 (omega arith)
float32 (negsuc a) h = lt→ltb a 16777216 (omega arith)

-- ---- to and from an integer
pub val-of-int : (z : ℤ) → of_int binary32 z ≡ val 0 z
unfolding of_int val
val-of-int (pos n) = refl
val-of-int (negsuc n) = refl

pub val-to-int : (z : ℤ) → Small z → T (in_signed binary32 31 (val 0 z)) × (to_signed 31 (val 0 z) ≡ z)
unfolding in_float
val-to-int z h = rw (← (val-of-int z)) (go z (unsigned_abs-within h))
  where
    go : (z : ℤ) → nat_abs z ≤ 2 ^ 24 → T (in_signed binary32 31 (of_int binary32 z)) × (to_signed 31 (of_int binary32 z) ≡ z)
    go (pos n) h = positive_back binary32 31 n (le→leb n (2 ^ 24) h) (omega arith)
    go (negsuc n) h = negative_back binary32 31 n (lt→ltb n (2 ^ 24) h) (omega arith)

-- ---- ticks to points and back, at any step
module _ (k : ℕ) (l : k ≤ 149) (z : ℤ) (Z : Small z) where
  pub steps-to-points : div binary32 (of_int binary32 z) (two k) ≡ val k z
  steps-to-points = rw (val-of-int z) (val-div 0 k z Z (omega arith) ∙ ap (λ (j : ℕ). val j z) (add-zero k))

  pub points-to-steps : T (in_signed binary32 31 (mul binary32 (val k z) (two k))) × (to_signed 31 (mul binary32 (val k z) (two k)) ≡ z)
  points-to-steps = rw (ap (λ (j : ℕ). mul binary32 (val j z) (two k)) (sym (add-zero k)) ∙ val-mul 0 k z Z (omega arith)) (val-to-int z Z)
