-- The centre of a range whose edges are both one rounded edge is that edge, a whole number of steps, wherever the centre is within the
-- limit; whatever float was rounded. For steps of 1 to 1/64 point. Assumes nothing.
use Rattle.std.proofs.Common.{◌≡◌, ℕ, ◌<◌, ◌≤◌, Bool, true, false, not, T, leb, ℤ, pos, negsuc, ◌+ℤ◌, neg_ℤ, refl, ap, ◌∙◌, add-zero, arith, le→leb, leb→le, pow_mono}
use lib.Dec.{nleb→lt}
use lib.Signed.{le_z}
use lib.Ieee.{Float, nan, inf, binary32, of_bits, neg, add, mul, div, le, lt, eq}
use Rattle.emath.specs.Rectangles.{centre_on, round_f, round_by, round_ui}
use Rattle.emath.specs.Domain.{limit, within}
use Rattle.emath.specs.Steps.{two, signed, val, most, Edge}
use Rattle.emath.proofs.Whole.{Within, within-unsigned_abs, sum, more-neg, less-neg, le_z→, →le_z}
use Rattle.emath.proofs.Exact.{Small}
use Rattle.emath.proofs.Values.{val-add, val-div, val-halve}
use Rattle.emath.proofs.Order.{val_mono}
use Rattle.emath.proofs.OrderLaws.{le_trans}
use Rattle.emath.proofs.Rounding.{unsigned_abs-signed}
use Rattle.emath.proofs.RoundOrder.{double-keeps-order, div-keeps-order}
use Rattle.emath.proofs.Edges.{within_low, within-high, below-limit, above-lowest, within-steps, WholeOf, is_nan, is-infinite, is_whole, whole_of}

-- ---- of a whole number of steps
module _ (k : ℕ) (l : k ≤ 148) (z : ℤ) (Z : Small (z +ℤ z)) where
  pub centre-val : centre_on (val k z) (val k z) ≡ val k z
  centre-val = unfold of_bits in rw (val-add k (omega arith) z z (omega (arith, sum z z)) (omega (arith, sum z z))) (val-halve k (omega arith) z Z)

-- ---- the centre keeps the order
centre-keeps : (x y : Float) → T (le x y) → T (le (centre_on x x) (centre_on y y))
unfolding of_bits
centre-keeps x y h = div-keeps-order 1 (add binary32 x x) (add binary32 y y) (double-keeps-order x y h)

module _ (k : ℕ) (l : k ≤ 6) where
  limit-small : most k < 8388608
  limit-small = omega (arith, pow_mono {i = k} {j = 6} l)

  -- n whole numbers divided, of the magnitude 2 ^ 23 or more, lie beyond it
  beyond : (z a : ℤ) → Small a → T (le_z a z) → T (le (val k a) (div binary32 (val 0 z) (two k)))
  beyond z a A h =
      let e : div binary32 (val 0 a) (two k) ≡ val k a = val-div 0 k a A (omega arith) ∙ ap (λ (j : ℕ). val j a) (add-zero k) in
      rw e at (div-keeps-order k (val 0 a) (val 0 z) (val_mono 0 a z h))

  before-it : (z a : ℤ) → Small a → T (le_z z a) → T (le (div binary32 (val 0 z) (two k)) (val k a))
  before-it z a A h =
      let e : div binary32 (val 0 a) (two k) ≡ val k a = val-div 0 k a A (omega arith) ∙ ap (λ (j : ℕ). val j a) (add-zero k) in
      rw e at (div-keeps-order k (val 0 z) (val 0 a) (val_mono 0 z a h))

  high-out : (n : ℕ) → 8388608 < n → T (within (centre_on (div binary32 (val 0 (pos n)) (two k)) (div binary32 (val 0 (pos n)) (two k)))) → ⊥
  high-out n h t =
      let w = div binary32 (val 0 (pos n)) (two k) in
      let a : T (le (val k (pos 8388608)) (centre_on w w))
      = rw (centre-val k (omega arith) (pos 8388608) (omega arith)) at (centre-keeps (val k (pos 8388608)) w (beyond (pos n) (pos 8388608) (omega arith) (le→leb 8388608 n (omega arith)))) in
      let b : T (le (val k (pos 8388608)) limit) = le_trans (val k (pos 8388608)) (centre_on w w) limit a (within-high (centre_on w w) t) in
      let d : T (le_z (pos 8388608) (pos (most k))) = rw (below-limit k (omega arith) (pos 8388608) (omega arith)) at b in
      omega (arith, le_z→ (pos 8388608) (pos (most k)) d, limit-small)

  low-out : (n : ℕ) → 8388608 < n → T (within (centre_on (div binary32 (val 0 (neg_ℤ (pos n))) (two k)) (div binary32 (val 0 (neg_ℤ (pos n))) (two k)))) → ⊥
  low-out n h t =
      let w = div binary32 (val 0 (neg_ℤ (pos n))) (two k) in
      let c : T (le_z (neg_ℤ (pos n)) (negsuc 8388607)) = →le_z (neg_ℤ (pos n)) (negsuc 8388607) (omega (arith, more-neg (pos n), less-neg (pos n))) in
      let a : T (le (centre_on w w) (val k (negsuc 8388607)))
      = rw (centre-val k (omega arith) (negsuc 8388607) (omega arith)) at (centre-keeps w (val k (negsuc 8388607)) (before-it (neg_ℤ (pos n)) (negsuc 8388607) (omega arith) c)) in
      let b : T (le (neg limit) (val k (negsuc 8388607))) = le_trans (neg limit) (centre_on w w) (val k (negsuc 8388607)) (within_low (centre_on w w) t) a in
      let d : T (le_z (neg_ℤ (pos (most k))) (negsuc 8388607)) = rw (above-lowest k (omega arith) (negsuc 8388607) (omega arith)) at b in
      omega (arith, le_z→ (neg_ℤ (pos (most k))) (negsuc 8388607) d, limit-small, more-neg (pos (most k)), less-neg (pos (most k)))

  pub record Centred (w : Float) : Type 0 where
    pub same : centre_on w w ≡ w
    pub edge : Edge k w

  small-centre : (s : Bool) (n : ℕ) → n ≤ 8388608 → T (within (centre_on (div binary32 (val 0 (signed s n)) (two k)) (div binary32 (val 0 (signed s n)) (two k)))) → Centred (div binary32 (val 0 (signed s n)) (two k))
  small-centre s n h t =
      let Z : Within 8388608 (signed s n) = within-unsigned_abs (signed s n) (rw (unsigned_abs-signed s n) h) in
      let S : Small (signed s n) = omega arith in
      let D : Small (signed s n +ℤ signed s n) = omega (arith, sum (signed s n) (signed s n)) in
      let e : div binary32 (val 0 (signed s n)) (two k) ≡ val k (signed s n) = val-div 0 k (signed s n) S (omega arith) ∙ ap (λ (z : ℕ). val z (signed s n)) (add-zero k) in
      let c : centre_on (val k (signed s n)) (val k (signed s n)) ≡ val k (signed s n) = centre-val k (omega arith) (signed s n) D in
      rw e (record { same = c; edge = record { steps = signed s n; few = within-steps k (omega arith) (signed s n) S (rw (e, c) at t); is = refl } })

  whole-centre : (w : Float) → WholeOf w → T (within (centre_on (div binary32 w (two k)) (div binary32 w (two k)))) → Centred (div binary32 w (two k))
  whole-centre w (is_nan e) t = absurd (nothing (rw e at (within-high (centre_on (div binary32 w (two k)) (div binary32 w (two k))) t)))
    where
      nothing : T (le (centre_on (div binary32 nan (two k)) (div binary32 nan (two k))) limit) → ⊥
      nothing t = unfold le lt eq div add of_bits in t
  whole-centre w (is-infinite s e) t =
      absurd (nothing s (rw e at (within_low (centre_on (div binary32 w (two k)) (div binary32 w (two k))) t)) (rw e at (within-high (centre_on (div binary32 w (two k)) (div binary32 w (two k))) t)))
    where
      nothing : (s : Bool) → T (le (neg limit) (centre_on (div binary32 (inf s) (two k)) (div binary32 (inf s) (two k)))) → T (le (centre_on (div binary32 (inf s) (two k)) (div binary32 (inf s) (two k))) limit) → ⊥
      nothing true t u = unfold le lt eq div add neg of_bits in t
      nothing false t u = unfold le lt eq div add of_bits in u
  whole-centre w (is_whole s n e) t = rw e (go s (leb n 8388608) (leb→le n 8388608) (nleb→lt n 8388608) (rw e at t))
    where
      go : (s : Bool) (c : Bool) → (T c → n ≤ 8388608) → (T (not c) → 8388608 < n)
          → T (within (centre_on (div binary32 (val 0 (signed s n)) (two k)) (div binary32 (val 0 (signed s n)) (two k)))) → Centred (div binary32 (val 0 (signed s n)) (two k))
      go s true y z t = small-centre s n (y tt) t
      go false false y z t = absurd (high-out n (z tt) t)
      go true false y z t = absurd (low-out n (z tt) t)

  pub centre-edge : (x : Float) → T (within (centre_on (round_ui k x) (round_ui k x))) → Centred (round_ui k x)
  unfolding round_by
  centre-edge x t = whole-centre (round_f (mul binary32 x (two k))) (whole_of (mul binary32 x (two k))) t
