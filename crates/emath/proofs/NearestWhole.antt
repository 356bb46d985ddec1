-- What `near` and `round` compute is `round_f`. Assumes nothing.
use Rattle.std.proofs.Common.{◌≡◌, ℕ, zero, suc, ◌+◌, ◌-◌, ◌*◌, ◌/◌, ◌%◌, ◌^◌, ◌<◌, ◌≤◌, Bool, true, false, ◌&&◌, T, eqb, ltb, ℤ, pos, negsuc, neg_ℤ, sym, refl, ap, ◌∙◌, subst, true≢false, lt_of_lt_of_le, mul_assoc, div-lt_iff_lt-mul, mul-lt-mul_of_pos_right, zero-mul, mul-one, arith, lit<, lit≤, ltb→lt, lt→ltb, nltb→le, pow_pos, pow_mono, pow-add}
use native.Mathlib.Nat.{add-div_right, div-div-eq-div-mul}
use lib.IntN.{+ℤ_idl}
use lib.Ieee.{Float, nan, inf, fin, binary32, up, down, round, sum, add, lt, fits, of_int, to_unsigned, neg, sub}
use lib.Ieee.Fits.{down_pos, and_l, and_r, round-fits, neg-fits}
use lib.Ieee.Exact.{HasValue, round_exact}
use lib.Ieee.Nearest.{div_same}
use lib.Ieee.Back.{whole_unique}
use Rattle.emath.specs.Rectangles.{near_up, round_f}
use Rattle.emath.specs.Steps.{val}
use Rattle.emath.proofs.Tests.{is_lt, is-no, is-yes}
use Rattle.emath.proofs.Whole.{within-unsigned_abs}
use Rattle.emath.proofs.Exact.{split, bounded, val_is, add_at, sub_is, lt_at}
use Rattle.emath.proofs.NearUp.{near_up-le, near-whole}
use Rattle.emath.proofs.Rounding.{whole-at, fits-says}

pub record Piece (y : Float) : Type 0 where
  pub fine : ℕ
  pub steps : ℕ
  pub deep : fine ≤ 149
  pub few : steps < 2 ^ 24
  pub below : steps < 2 ^ 23 * 2 ^ fine
  pub is : HasValue y false steps (2 ^ fine)

pub piece : (y : Float) → T (fits binary32 y) → T (lt (fin false 0 (pos 0)) y) → T (lt y (fin false 1 (pos 23))) → Piece y
unfolding lt
piece nan f lo hi = absurd lo
piece (inf true) f lo hi = absurd lo
piece (inf false) f lo hi = absurd hi
piece (fin true m e) f lo hi = absurd lo
piece (fin false m (pos j)) f lo hi =
    let h : m * 2 ^ j * 1 < 1 * 2 ^ 23 * 1 = ltb→lt (m * 2 ^ j * 1) (1 * 2 ^ 23 * 1) hi in
    record { fine = 0; steps = m * 2 ^ j; deep = omega arith; few = omega arith; below = omega arith; is = (refl, omega arith) }
piece (fin false m (negsuc j)) f lo hi =
    let h : m * 1 * 1 < 1 * 2 ^ 23 * 2 ^ suc j = ltb→lt (m * 1 * 1) (1 * 2 ^ 23 * 2 ^ suc j) hi in
    let g = fits-says false m j f in
    record { fine = suc j; steps = m; deep = g.1; few = g.0; below = omega arith; is = (refl, omega arith) }

double : (A i : ℕ) → i ≤ 149 → (A + A) * 2 ^ 149 ≡ A * 2 ^ (150 - i) * 2 ^ i
double A i l =
    let e : A + A ≡ A * 2 = omega arith in
    ap (λ (z : ℕ). z * 2 ^ 149) e ∙ mul_assoc A 2 (2 ^ 149) ∙ ap (λ (z : ℕ). A * z) (sym (split i 150 (omega arith))) ∙ sym (mul_assoc A (2 ^ (150 - i)) (2 ^ i))

twice : (y : Float) (A i : ℕ) → i ≤ 149 → A < 2 ^ 24 → HasValue y false A (2 ^ i) → HasValue (add binary32 y y) false (A + A) (2 ^ i)
twice y A i l b v =
    subst (λ (z : Float). HasValue z false (A + A) (2 ^ i)) (sym (add_at y y false false A A i v v ∙ same))
    (round_exact binary32 false (A + A) (2 ^ i) A (150 - i) (pow_pos i) b (bounded A (150 - i) b (omega arith)) (double A i l))
  where
    same : sum binary32 false A false A (2 ^ i) ≡ round binary32 false (A + A) (2 ^ i)
    same = unfold sum in refl

whole_part : (z : Float) (B c : ℕ) → 0 < c → HasValue z false B c → B / c < 2 ^ 64 → to_unsigned 64 z ≡ B / c
unfolding to_unsigned
whole_part nan B c C v h = absurd v
whole_part (inf s) B c C v h = absurd v
whole_part (fin s m e) B c C v h = rw (v.0, div_same (m * up e) (down e) B c (down_pos e) C v.1) (omega arith)

half_up : (A d : ℕ) → 0 < d → ((A + A) / d + 1) / 2 ≡ near_up A d
half_up A d D =
    let e : A + A ≡ A * 2 = omega arith in
    ap (λ (z : ℕ). (z / d + 1) / 2) e ∙ ap (λ (z : ℕ). z / 2) (sym (add-div_right (A * 2) D)) ∙ div-div-eq-div-mul (A * 2 + d) d 2

counted : (n : ℕ) → of_int binary32 (pos n) ≡ val 0 (pos n)
unfolding of_int val
counted n = refl

above_minus_one : (z : Float) (B c : ℕ) → HasValue z false B c → T (lt (fin true 1 (pos 0)) z)
unfolding lt
above_minus_one nan B c v = absurd v
above_minus_one (inf s) B c v = absurd v
above_minus_one (fin true m e) B c v = absurd (true≢false v.0)
above_minus_one (fin false m e) B c v = lt→ltb 0 (1 * 1 * down e + m * up e * 1) (omega (arith, down_pos e))

module _ (y : Float) (f : T (fits binary32 y)) (lo : T (lt (fin false 0 (pos 0)) y)) (hi : T (lt y (fin false 1 (pos 23)))) where
  -- twice y without its fraction, and what `near` makes of it
  pub near-count : (n : ℕ) × (n < 2 ^ 24) × (to_unsigned 64 (add binary32 y y) ≡ n) × (of_int binary32 (pos ((n + 1) / 2)) ≡ round_f y)
  near-count =
      let p = piece y f lo hi in
      let A = p.steps in
      let d = 2 ^ p.fine in
      let d0 : 0 < d = pow_pos p.fine in
      let small : (A + A) / d < 2 ^ 24 = (div-lt_iff_lt-mul d0).1 (omega (arith, p.below)) in (
        (A + A) / d,
        small,
        whole_part (add binary32 y y) (A + A) d d0 (twice y A p.fine p.deep p.few p.is) (lt_of_lt_of_le small (lit≤ tt)),
        counted (((A + A) / d + 1) / 2) ∙ ap (λ (z : ℕ). val 0 (pos z)) (half_up A d d0) ∙ sym (whole-at y false A d d0 p.is),
      )

  pub near-range : T (lt (fin true 1 (pos 0)) (add binary32 y y)) × T (lt (add binary32 y y) (fin false 1 (pos 64)))
  near-range =
      let p = piece y f lo hi in
      let A = p.steps in
      let v : HasValue (add binary32 y y) false (A + A) (2 ^ p.fine) = twice y A p.fine p.deep p.few p.is in (
        above_minus_one (add binary32 y y) (A + A) (2 ^ p.fine) v,
        subst T (sym (lt_at (add binary32 y y) (fin false 1 (pos 64)) false false (A + A) (2 ^ 64 * 2 ^ p.fine) p.fine v (refl, omega arith)
            ∙ is_lt (A + A) (2 ^ 64 * 2 ^ p.fine) (omega (arith, p.few, pow_pos p.fine)))) tt,
      )

-- ---- where y is a whole number already
fits-high : (s : Bool) (m j : ℕ) → T (fits binary32 (fin s m (pos j))) → (m < 2 ^ 24) × (m * 2 ^ j < 2 ^ 128)
unfolding fits
fits-high s zero j t = (lit< tt, rw (zero-mul (2 ^ j)) (lit< tt))
fits-high s (suc m) j t =
    let a : Bool = eqb (suc m % 2) 1 in
    let b : Bool = ltb (suc m) (2 ^ 24) in
    let d : Bool = ltb (suc m * 2 ^ j) (2 ^ 128 * 1) in
    (ltb→lt (suc m) (2 ^ 24) (and_r a b (and_l (a && b) true (and_l (a && b && true) d t))), ltb→lt (suc m * 2 ^ j) (2 ^ 128) (and_r (a && b && true) d t))

pub own-whole : (s : Bool) (m j : ℕ) → T (fits binary32 (fin s m (pos j))) → round binary32 s (m * 2 ^ j) 1 ≡ fin s m (pos j)
own-whole s m j f =
    let g = fits-high s m j f in
    let e : m * 2 ^ (j + 149) ≡ m * 2 ^ j * 2 ^ 149 = ap (λ (z : ℕ). m * z) (pow-add 2 j 149) ∙ sym (mul_assoc m (2 ^ j) (2 ^ 149)) in
    whole_unique binary32 (round binary32 s (m * 2 ^ j) 1) (fin s m (pos j)) s (m * 2 ^ j) (round-fits binary32 s (m * 2 ^ j) 1) f
    (round_exact binary32 s (m * 2 ^ j) 1 m (j + 149) (lit< tt) g.0 (rw e (mul-lt-mul_of_pos_right g.1 (pow_pos 149))) (sym e ∙ sym (mul-one (m * 2 ^ (j + 149)))))
    (refl, refl)

pub two-le : (j : ℕ) → 2 ≤ 2 ^ suc j
two-le j = pow_mono {i = 1} {j = suc j} (omega arith)

pub too_many : (m P : ℕ) → m < 2 ^ 24 → 2 ≤ P → 1 * 2 ^ 23 * P ≤ m * 1 * 1 → ⊥
too_many m P a b c = omega arith

-- from 2 ^ 23 on a finite value is whole
whole-high : (s : Bool) (m : ℕ) (e : ℤ) → T (fits binary32 (fin s m e)) → 1 * 2 ^ 23 * down e ≤ m * up e * 1 → round_f (fin s m e) ≡ fin s m e
unfolding round_f
whole-high s m (negsuc j) f h = absurd (too_many m (2 ^ suc j) (fits-says s m j f).0 (two-le j) h)
whole-high s m (pos j) f h = rw (near-whole (m * 2 ^ j), is_lt 0 (m * 2 ^ j) (omega arith)) (go s f)
  where
    go : (s : Bool) → T (fits binary32 (fin s m (pos j))) → round binary32 (s && true) (m * 2 ^ j) 1 ≡ fin s m (pos j)
    go true f = own-whole true m j f
    go false f = own-whole false m j f

pub from-high : (y : Float) → T (fits binary32 y) → lt y (fin false 1 (pos 23)) ≡ false → round_f y ≡ y
unfolding lt
from-high nan f h = unfold round_f in refl
from-high (inf s) f h = unfold round_f in refl
from-high (fin true m e) f h = absurd (omega (arith, nltb→le 0 (m * up e * 1 + 1 * 2 ^ 23 * down e) (is-no (ltb 0 (m * up e * 1 + 1 * 2 ^ 23 * down e)) h), down_pos e))
from-high (fin false m e) f h = whole-high false m e f (nltb→le (m * up e * 1) (1 * 2 ^ 23 * down e) (is-no (ltb (m * up e * 1) (1 * 2 ^ 23 * down e)) h))

pub from_low : (y : Float) → T (fits binary32 y) → lt (fin true 1 (pos 23)) y ≡ false → round_f y ≡ y
unfolding lt
from_low nan f h = unfold round_f in refl
from_low (inf s) f h = unfold round_f in refl
from_low (fin false m e) f h = absurd (omega (arith, nltb→le 0 (1 * 2 ^ 23 * down e + m * up e * 1) (is-no (ltb 0 (1 * 2 ^ 23 * down e + m * up e * 1)) h), down_pos e))
from_low (fin true m e) f h = whole-high true m e f (nltb→le (m * up e * 1) (1 * 2 ^ 23 * down e) (is-no (ltb (m * up e * 1) (1 * 2 ^ 23 * down e)) h))

zero_is : (s : Bool) (m : ℕ) (e : ℤ) → m * up e ≡ 0 → fin false 0 (pos 0) ≡ round_f (fin s m e)
unfolding round_f round
zero_is s m e h = rw (h, none (down e) (down_pos e)) (go s)
  where
    none : (d : ℕ) → 0 < d → near_up 0 d ≡ 0
    none d D = omega (arith, near_up-le 0 d D)

    go : (s : Bool) → fin false 0 (pos 0) ≡ round binary32 (s && false) 0 1
    go true = refl
    go false = refl

pub at_zero : (y : Float) → lt y (fin false 1 (pos 23)) ≡ true → lt (fin false 0 (pos 0)) y ≡ false → lt y (fin false 0 (pos 0)) ≡ false → fin false 0 (pos 0) ≡ round_f y
unfolding lt
at_zero nan h lo hi = absurd (is-yes false h)
at_zero (inf true) h lo hi = absurd (is-no true hi)
at_zero (inf false) h lo hi = absurd (is-yes false h)
at_zero (fin true m e) h lo hi = zero_is true m e (omega (arith, nltb→le 0 (m * up e * 1 + 0 * 1 * down e) (is-no (ltb 0 (m * up e * 1 + 0 * 1 * down e)) hi)))
at_zero (fin false m e) h lo hi = zero_is false m e (omega (arith, nltb→le (0 * 1 * down e) (m * up e * 1) (is-no (ltb (0 * 1 * down e) (m * up e * 1)) lo)))

pub opposite : (y : Float) → T (fits binary32 y) → lt (fin true 1 (pos 23)) y ≡ true → lt y (fin false 0 (pos 0)) ≡ true
    → T (lt (fin false 0 (pos 0)) (neg y)) × T (lt (neg y) (fin false 1 (pos 23))) × T (fits binary32 (neg y))
unfolding lt neg
opposite nan f lo hi = absurd (is-yes false hi)
opposite (inf true) f lo hi = absurd (is-yes false lo)
opposite (inf false) f lo hi = absurd (is-yes false hi)
opposite (fin false m e) f lo hi = absurd (omega (arith, ltb→lt (m * up e * 1) (0 * 1 * down e) (is-yes (ltb (m * up e * 1) (0 * 1 * down e)) hi)))
opposite (fin true m e) f lo hi = (
  lt→ltb (0 * 1 * down e) (m * up e * 1) (omega (arith, ltb→lt 0 (m * up e * 1 + 0 * 1 * down e) (is-yes (ltb 0 (m * up e * 1 + 0 * 1 * down e)) hi))),
  is-yes (ltb (m * up e * 1) (1 * 2 ^ 23 * down e)) lo,
  neg-fits binary32 (fin true m e) f,
)

pub below-zero : (y : Float) → T (fits binary32 y) → lt (fin true 1 (pos 23)) y ≡ true → lt y (fin false 0 (pos 0)) ≡ true → sub binary32 (fin false 0 (pos 0)) (round_f (neg y)) ≡ round_f y
below-zero y f lo hi =
    let o = opposite y f lo hi in
    let p = piece (neg y) o.2 o.0 o.1 in
    let n = near_up p.steps (2 ^ p.fine) in
    let d0 : 0 < 2 ^ p.fine = pow_pos p.fine in
    let small : n ≤ 2 ^ 24 = omega (arith, near_up-le p.steps (2 ^ p.fine) d0, p.few) in
    ap (λ (z : Float). sub binary32 (fin false 0 (pos 0)) z) (whole-at (neg y) false p.steps (2 ^ p.fine) d0 p.is)
    ∙ sub_is (fin false 0 (pos 0)) (val 0 (pos n)) 0 (pos 0) (pos n) (refl, refl) (val_is 0 (pos n) (omega arith) (within-unsigned_abs (pos n) small))
    ∙ ap (val 0) (+ℤ_idl (neg_ℤ (pos n)))
    ∙ sym (whole-at y true p.steps (2 ^ p.fine) d0 (flipped y p.steps (2 ^ p.fine) hi p.is))
  where
    flipped : (y : Float) (A c : ℕ) → lt y (fin false 0 (pos 0)) ≡ true → HasValue (neg y) false A c → HasValue y true A c
    flipped nan A c h v = absurd (unfold neg in v)
    flipped (inf s) A c h v = absurd (unfold neg in v)
    flipped (fin true m e) A c h v = (refl, (unfold neg in v.1))
    flipped (fin false m e) A c h v = absurd (true≢false (unfold neg in v.0))
