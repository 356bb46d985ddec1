-- What from_hundredths works out in i32: no product, sum or quotient leaves it, and the quotient is the nearest tick. Assumes nothing.
use Rattle.std.proofs.Common.{ℕ, zero, suc, ◌+◌, ◌*◌, ◌/◌, ◌≤◌, zero-le, ◌≡◌, refl, ap, ◌∙◌, Bool, true, false, cond, arith, le-ltb, ltb, ℤ, pos, negsuc, neg_ℤ, nat_abs, ◌+ℤ◌, ◌*ℤ◌, w32, SFits, to_z, of_z}
use Rattle.std.proofs.lemmas.Int.{to_z-of_z}
use Rattle.std.specs.Int.Signed.{lt_z, quot_z}
use Rattle.emath.specs.Steps.{tick}
use Rattle.emath.proofs.Whole.{Within, within-unsigned_abs, sum, more-neg, less-neg, same}
use Rattle.records.specs.Units.{nearest, from_hundredths}
use Rattle.records.proofs.Hundredths.{more-times, less-times}

-- an i32 that holds z
abbrev held : ℤ → ℤ
held z = to_z w32 (of_z w32 z)

fits : (z : ℤ) → Within 2147483647 z → SFits w32 z
fits (pos n) h = record { sfits = omega (arith, h.over) }
fits (negsuc n) h = record { sfits = omega (arith, h.under) }

quotient-few : (z : ℤ) → Within 2147483647 z → Within 2147483647 (quot_z z (pos 635))
quotient-few (pos n) h = omega (arith, h.over)
quotient-few (negsuc n) h = omega (arith, h.under, more-neg (pos (suc n / 635)), less-neg (pos (suc n / 635)))

quotient-below : (n : ℕ) → quot_z (neg_ℤ (pos n)) (pos 635) ≡ neg_ℤ (pos (n / 635))
quotient-below zero = refl
quotient-below (suc n) = refl

-- the quotient is cut towards zero, so the nearest is found by adding half a tick away from it
nearest-tick : (z b : ℤ) → b ≡ cond (lt_z z (pos 0)) (negsuc 316) (pos 317) → quot_z (pos 576 *ℤ z +ℤ b) (pos 635) ≡ from_hundredths tick z
unfolding from_hundredths nearest
nearest-tick (pos n) b e =
    let o : ltb n 0 ≡ false = le-ltb n 0 zero-le in
    rw (e, o)
nearest-tick (negsuc n) b e =
    let m = 576 * suc n in
    let d : neg_ℤ (pos m) +ℤ negsuc 316 ≡ neg_ℤ (pos (m + 317))
    = same (neg_ℤ (pos m) +ℤ negsuc 316) (neg_ℤ (pos (m + 317))) (omega (arith, sum (neg_ℤ (pos m)) (negsuc 316), more-neg (pos m), less-neg (pos m), more-neg (pos (m + 317)), less-neg (pos (m + 317)))) in
    rw e (ap (λ (t : ℤ). quot_z t (pos 635)) d ∙ quotient-below (m + 317))

module _ (z : ℤ) (f : SFits w32 z) (h : nat_abs z ≤ 2097152) where
  abbrev y : ℤ
  y = pos 576 *ℤ z

  y-is : pos 576 *ℤ held z ≡ y
  y-is = ap (λ (x : ℤ). pos 576 *ℤ x) (to_z-of_z w32 z f)

  y-few : Within 1207959552 y
  y-few = let w = within-unsigned_abs z h in omega (arith, w.over, w.under, more-times 576 z, less-times 576 z)

  pub product-fits : SFits w32 (pos 576 *ℤ held z)
  product-fits = rw y-is (fits y (omega (arith, y-few.over, y-few.under)))

  product-held : held (pos 576 *ℤ held z) ≡ y
  product-held = to_z-of_z w32 (pos 576 *ℤ held z) product-fits ∙ y-is

  -- with half a tick away from zero
  module _ (b : ℤ) (e : b ≡ cond (lt_z (held z) (pos 0)) (negsuc 316) (pos 317)) where
    half-few : Within 317 b
    half-few = rw e (go (lt_z (held z) (pos 0)))
      where
        go : (below : Bool) → Within 317 (cond below (negsuc 316) (pos 317))
        go true = omega arith
        go false = omega arith

    half-held : held b ≡ b
    half-held = to_z-of_z w32 b (fits b (omega (arith, half-few.over, half-few.under)))

    x-few : Within 2147483647 (y +ℤ b)
    x-few = omega (arith, y-few.over, y-few.under, half-few.over, half-few.under, sum y b)

    pub sum_fits : SFits w32 (held (pos 576 *ℤ held z) +ℤ held b)
    sum_fits = rw (product-held, half-held) (fits (y +ℤ b) x-few)

    sum-held : held (held (pos 576 *ℤ held z) +ℤ held b) ≡ y +ℤ b
    sum-held = to_z-of_z w32 (held (pos 576 *ℤ held z) +ℤ held b) sum_fits ∙ rw (product-held, half-held)

    pub quotient_fits : SFits w32 (quot_z (held (held (pos 576 *ℤ held z) +ℤ held b)) (pos 635))
    quotient_fits = rw sum-held (fits (quot_z (y +ℤ b) (pos 635)) (quotient-few (y +ℤ b) x-few))

    pub quotient_is : held (quot_z (held (held (pos 576 *ℤ held z) +ℤ held b)) (pos 635)) ≡ from_hundredths tick z
    quotient_is =
        to_z-of_z w32 (quot_z (held (held (pos 576 *ℤ held z) +ℤ held b)) (pos 635)) quotient_fits ∙ ap (λ (x : ℤ). quot_z x (pos 635)) sum-held
        ∙ nearest-tick z b (e ∙ ap (λ (x : ℤ). cond (lt_z x (pos 0)) (negsuc 316) (pos 317)) (to_z-of_z w32 z f))
