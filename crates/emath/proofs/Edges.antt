-- Every rounded edge within the limit is a whole number of steps, whatever float was rounded; and what is within the limit rounds to such
-- an edge. For steps of 1 to 1/128 point: there the limit is less than 2 ^ 24 steps. Assumes nothing.
use Rattle.std.proofs.Common.{◌≡◌, ℕ, zero, suc, ◌*◌, ◌^◌, ◌<◌, ◌≤◌, Bool, true, false, not, T, leb, ℤ, pos, negsuc, ◌*ℤ◌, neg_ℤ, nat_abs, sym, refl, ap, ◌∙◌, add-zero, mul-le-mul, arith, le→leb, leb→le, pow_pos, pow_mono}
use lib.Dec.{nleb→lt}
use lib.Signed.{le_z}
use lib.Ieee.{Float, nan, inf, fin, binary32, of_bits, up, down, round, neg, mul, div, le, lt, eq, unlike, fits}
use lib.Ieee.Fits.{and_i, and_l, and_r}
use Rattle.emath.specs.Rectangles.{near_up, round_f, round_by, round_ui}
use Rattle.emath.specs.Domain.{limit, within}
use Rattle.emath.specs.Steps.{two, signed, val, HalfStep, most, Edge}
use Rattle.emath.proofs.Whole.{Within, unsigned_abs-within, within-unsigned_abs, more-neg, less-neg, le_z→, →le_z}
use Rattle.emath.proofs.Exact.{Small}
use Rattle.emath.proofs.Values.{val-le, neg-round, val-neg, val-div, val-finer}
use Rattle.emath.proofs.Order.{before, turn, val_mono}
use Rattle.emath.proofs.OrderLaws.{le_trans}
use Rattle.emath.proofs.Rounding.{sign-val, small_signed, half_step, val-whole}
use Rattle.emath.proofs.RoundOrder.{div-keeps-order, round-keeps-order}

-- ---- the limit, in steps
limit-0 : limit ≡ val 0 (pos 65536)
unfolding val round of_bits
limit-0 = refl

pub finest : (k : ℕ) (z : ℤ) → val 0 z ≡ val k (z *ℤ pos (2 ^ k))
finest k z = sym (val-finer 0 k z) ∙ ap (λ (n : ℕ). val n (z *ℤ pos (2 ^ k))) (add-zero k)

pub limit_is : (k : ℕ) → limit ≡ val k (pos (most k))
limit_is k = limit-0 ∙ finest k (pos 65536)

pub lowest-is : (k : ℕ) → neg limit ≡ val k (neg_ℤ (pos (most k)))
lowest-is k = ap neg (limit_is k) ∙ val-neg k (pos (most k)) (omega (arith, pow_pos k))

-- ---- within the limit, in steps
pub within_low : (x : Float) → T (within x) → T (le (neg limit) x)
unfolding within
within_low x t = and_l (le (neg limit) x) (le x limit) t

pub within-high : (x : Float) → T (within x) → T (le x limit)
unfolding within
within-high x t = and_r (le (neg limit) x) (le x limit) t

small-limit : (k : ℕ) → k ≤ 7 → most k < 16777216
small-limit k l = omega (arith, pow_mono {i = k} {j = 7} l)

module _ (k : ℕ) (l : k ≤ 7) where
  pub below-limit : (z : ℤ) → Small z → le (val k z) limit ≡ le_z z (pos (most k))
  below-limit z Z = rw (limit_is k) (val-le k (omega arith) z (pos (most k)) Z (omega (arith, small-limit k l)))

  pub above-lowest : (z : ℤ) → Small z → le (neg limit) (val k z) ≡ le_z (neg_ℤ (pos (most k))) z
  above-lowest z Z = rw (lowest-is k) (val-le k (omega arith) (neg_ℤ (pos (most k))) z (omega (arith, small-limit k l, more-neg (pos (most k)), less-neg (pos (most k)))) Z)

  pub within-steps : (z : ℤ) → Small z → T (within (val k z)) → nat_abs z ≤ most k
  unfolding within
  within-steps z Z t =
      let a : T (le_z (neg_ℤ (pos (most k))) z) = rw (above-lowest z Z) at (and_l (le (neg limit) (val k z)) (le (val k z) limit) t) in
      let b : T (le_z z (pos (most k))) = rw (below-limit z Z) at (and_r (le (neg limit) (val k z)) (le (val k z) limit) t) in
      let w : Within (most k) z = omega (arith, le_z→ z (pos (most k)) b, le_z→ (neg_ℤ (pos (most k))) z a, more-neg (pos (most k)), less-neg (pos (most k))) in
      unsigned_abs-within w

  pub steps-within : (z : ℤ) → nat_abs z ≤ most k → T (within (val k z))
  unfolding within
  steps-within z h =
      let w : Within (most k) z = within-unsigned_abs z h in
      let Z : Small z = omega (arith, small-limit k l) in
      and_i (le (neg limit) (val k z)) (le (val k z) limit)
      (rw (above-lowest z Z) (→le_z (neg_ℤ (pos (most k))) z (omega (arith, more-neg (pos (most k)), less-neg (pos (most k))))))
      (rw (below-limit z Z) (→le_z z (pos (most k)) (omega arith)))

pub edge-within : (k : ℕ) → k ≤ 7 → (x : Float) → Edge k x → T (within x)
edge-within k l x e = rw e.is (steps-within k l e.steps e.few)

-- ---- what `round_f` comes to
pub data WholeOf (w : Float) : Type 0 where
  is_nan : w ≡ nan → WholeOf w
  is-infinite : (s : Bool) → w ≡ inf s → WholeOf w
  is_whole : (s : Bool) (n : ℕ) → w ≡ val 0 (signed s n) → WholeOf w

pub whole_of : (y : Float) → WholeOf (round_f y)
unfolding round_f
whole_of nan = is_nan refl
whole_of (inf s) = is-infinite s refl
whole_of (fin s m e) = is_whole s (near_up (m * up e) (down e)) (sign-val s (near_up (m * up e) (down e)))

-- ---- an opposite divided
turned : (s : Bool) → unlike (not s) false ≡ not (unlike s false)
turned true = refl
turned false = refl

div-neg : (u : Float) (k : ℕ) → div binary32 (neg u) (two k) ≡ neg (div binary32 u (two k))
unfolding div neg
div-neg nan k = refl
div-neg (inf s) k = ap inf (turned s)
div-neg (fin s m e) k = rw (turned s) (sym (neg-round binary32 (unlike s false) (m * up e * 1) (1 * 2 ^ k * down e)))

neg-neg-limit : neg (neg limit) ≡ limit
unfolding neg of_bits
neg-neg-limit = refl

opposite : (n : ℕ) → 0 < n → neg (val 0 (neg_ℤ (pos n))) ≡ val 0 (pos n)
opposite zero h = absurd (omega arith)
opposite (suc n) h = val-neg 0 (negsuc n) (omega arith)

-- ---- from 2 ^ 24 steps on it is outside
module _ (k : ℕ) (l : k ≤ 7) where
  power-out : T (le (val k (pos 16777216)) limit) → ⊥
  power-out t =
      let u : T (le_z (pos 16777216) (pos (most k))) = rw (below-limit k l (pos 16777216) (omega arith)) at t in
      omega (arith, le_z→ (pos 16777216) (pos (most k)) u, small-limit k l)

  -- a number of 2 ^ 24 and more, divided
  big-up : (n : ℕ) → 16777216 ≤ n → T (le (div binary32 (val 0 (pos n)) (two k)) limit) → ⊥
  big-up n h v =
      let e : div binary32 (val 0 (pos 16777216)) (two k) ≡ val k (pos 16777216) = val-div 0 k (pos 16777216) (omega arith) (omega arith) ∙ ap (λ (j : ℕ). val j (pos 16777216)) (add-zero k) in
      let m : T (le (div binary32 (val 0 (pos 16777216)) (two k)) (div binary32 (val 0 (pos n)) (two k)))
      = div-keeps-order k (val 0 (pos 16777216)) (val 0 (pos n)) (val_mono 0 (pos 16777216) (pos n) (le→leb 16777216 n h)) in
      power-out (le_trans (val k (pos 16777216)) (div binary32 (val 0 (pos n)) (two k)) limit (rw e at m) v)

  big-down : (n : ℕ) → 16777216 ≤ n → T (le (neg limit) (div binary32 (val 0 (neg_ℤ (pos n))) (two k))) → ⊥
  big-down n h v =
      let e : neg (val 0 (neg_ℤ (pos n))) ≡ val 0 (pos n) = opposite n (omega arith) in
      let t : T (le (neg (div binary32 (val 0 (neg_ℤ (pos n))) (two k))) (neg (neg limit))) = turn (div binary32 (val 0 (neg_ℤ (pos n))) (two k)) (neg limit) v in
      big-up n h (rw (← (div-neg (val 0 (neg_ℤ (pos n))) k), e, neg-neg-limit) at t)

  small-edge : (s : Bool) (n : ℕ) → n ≤ 16777216 → T (within (div binary32 (val 0 (signed s n)) (two k))) → Edge k (div binary32 (val 0 (signed s n)) (two k))
  small-edge s n h t =
      let S : Small (signed s n) = small_signed s n h in
      let e : div binary32 (val 0 (signed s n)) (two k) ≡ val k (signed s n) = val-div 0 k (signed s n) S (omega arith) ∙ ap (λ (z : ℕ). val z (signed s n)) (add-zero k) in
      rw e (record { steps = signed s n; few = within-steps k l (signed s n) S (rw e at t); is = refl })

  whole-edge : (w : Float) → WholeOf w → T (within (div binary32 w (two k))) → Edge k (div binary32 w (two k))
  whole-edge w (is_nan e) t = absurd (nothing (rw e at (within-high (div binary32 w (two k)) t)))
    where
      nothing : T (le (div binary32 nan (two k)) limit) → ⊥
      nothing t = unfold le lt eq div in t
  whole-edge w (is-infinite s e) t = absurd (nothing s (rw e at (within_low (div binary32 w (two k)) t)) (rw e at (within-high (div binary32 w (two k)) t)))
    where
      nothing : (s : Bool) → T (le (neg limit) (div binary32 (inf s) (two k))) → T (le (div binary32 (inf s) (two k)) limit) → ⊥
      nothing true t u = unfold le lt eq div neg of_bits in t
      nothing false t u = unfold le lt eq div of_bits in u
  whole-edge w (is_whole s n e) t = rw e (go s (leb n 16777216) (leb→le n 16777216) (nleb→lt n 16777216) (rw e at t))
    where
      go : (s : Bool) (c : Bool) → (T c → n ≤ 16777216) → (T (not c) → 16777216 < n) → T (within (div binary32 (val 0 (signed s n)) (two k))) → Edge k (div binary32 (val 0 (signed s n)) (two k))
      go s true y z t = small-edge s n (y tt) t
      go false false y z t = let h : 16777216 < n = z tt in absurd (big-up n (omega arith) (within-high (div binary32 (val 0 (pos n)) (two k)) t))
      go true false y z t = let h : 16777216 < n = z tt in absurd (big-down n (omega arith) (within_low (div binary32 (val 0 (neg_ℤ (pos n))) (two k)) t))

  -- ANY float that is rounded into the domain
  pub round-edge : (x : Float) → T (within (round_ui k x)) → Edge k (round_ui k x)
  unfolding round_by
  round-edge x t = whole-edge (round_f (mul binary32 x (two k))) (whole_of (mul binary32 x (two k))) t

  -- what is in the domain stays there
  limit-whole : round_ui k limit ≡ limit
  limit-whole = ap (round_ui k) (limit_is k) ∙ val-whole k (pos (most k)) (omega arith) (omega (arith, small-limit k l)) ∙ sym (limit_is k)

  lowest-whole : round_ui k (neg limit) ≡ neg limit
  lowest-whole = ap (round_ui k) (lowest-is k) ∙ val-whole k (neg_ℤ (pos (most k))) (omega arith) (omega (arith, small-limit k l, more-neg (pos (most k)), less-neg (pos (most k)))) ∙ sym (lowest-is k)

  pub round-within : (x : Float) → T (within x) → T (within (round_ui k x))
  round-within x t = unfold within in and_i (le (neg limit) (round_ui k x)) (le (round_ui k x) limit)
      (rw lowest-whole at (round-keeps-order k (neg limit) x (within_low x t)))
      (rw limit-whole at (round-keeps-order k x limit (within-high x t)))

  pub within-edge : (x : Float) → T (within x) → Edge k (round_ui k x)
  within-edge x t = round-edge x (round-within x t)

-- ---- a finite edge of the domain is moved by at most half a step: for a tick, by at most 1/64 point
in-limit : (s : Bool) (m : ℕ) (e : ℤ) → T (within (fin s m e)) → m * up e ≤ 65536 * down e
unfolding within le lt eq neg of_bits
in-limit false m e t = omega (arith, before false (m * up e * 1) false (1 * 2 ^ 16 * down e) (and_r (le (neg limit) (fin false m e)) (le (fin false m e) limit) t))
in-limit true m e t = omega (arith, before true (1 * 2 ^ 16 * down e) true (m * up e * 1) (and_l (le (neg limit) (fin true m e)) (le (fin true m e) limit) t))

pub half-step-within : (k : ℕ) → k ≤ 8 → (s : Bool) (m : ℕ) (e : ℤ) → T (fits binary32 (fin s m e)) → T (within (fin s m e)) → HalfStep k s m e (round_ui k (fin s m e))
half-step-within k l s m e f t = half_step k (omega arith) s m e f (scale (m * up e) (down e) (2 ^ k) (in-limit s m e t) (pow_mono {i = k} {j = 8} l))
  where
    scale : (M d p : ℕ) → M ≤ 65536 * d → p ≤ 256 → M * p ≤ 2 ^ 24 * d
    scale M d p h q = omega (arith, mul-le-mul h q)
