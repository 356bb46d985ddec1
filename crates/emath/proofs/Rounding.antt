-- Rounding to whole steps of 1 / 2 ^ k point: the nearest whole number of steps, at most half a step away; exact on whole steps; on a finer grid
-- the rounding of whole numbers. Assumes nothing.
use Rattle.std.proofs.Common.{◌≡◌, ℕ, zero, suc, ◌+◌, ◌-◌, ◌*◌, ◌%◌, ◌^◌, ◌<◌, ◌≤◌, Bool, true, false, not, ◌&&◌, T, eqb, ltb, leb, ℤ, pos, negsuc, nat_abs, sym, refl, ap, ◌∙◌, le_trans, le_of_suc-le-suc, add-zero, lt_of_not-le, zero-add, not-le_of_lt, le_of_mul-le-mul_right, arith, lit<, eqb→eq, ltb→lt, leb→le, pow_pos, pow-add}
use lib.Dec.{nleb→lt}
use lib.Pow.{pow-lt}
use lib.Ieee.{Float, nan, inf, fin, binary32, of_bits, up, down, round, mul, div, fits}
use lib.Ieee.Fits.{down_pos, and_l, and_r}
use lib.Ieee.Exact.{HasValue}
use Rattle.emath.specs.Rectangles.{near_up, round_f, round_by, round_ui}
use Rattle.emath.specs.Steps.{tick, two, sgn, signed, val, round_z, HalfStep}
use Rattle.emath.proofs.Tests.{is_lt}
use Rattle.emath.proofs.Whole.{unsigned_abs-within, within-unsigned_abs}
use Rattle.emath.proofs.Exact.{Small, exact, val_is}
use Rattle.emath.proofs.Values.{mul_at, val-div}
use Rattle.emath.proofs.NearUp.{near_up-same, near_up-le, near-high, near-low, near-whole, near-mono}

-- ---- `round_f` sees the value alone
pub sign-val : (s : Bool) (n : ℕ) → round binary32 (s && ltb 0 n) n 1 ≡ val 0 (signed s n)
unfolding val
sign-val false n = refl
sign-val true zero = refl
sign-val true (suc n) = rw (is_lt 0 (suc n) (omega arith))

pub whole-at : (y : Float) (s : Bool) (A c : ℕ) → 0 < c → HasValue y s A c → round_f y ≡ val 0 (signed s (near_up A c))
unfolding round_f
whole-at nan s A c C h = absurd h
whole-at (inf t) s A c C h = absurd h
whole-at (fin t m e) s A c C h = rw (h.0, near_up-same (m * up e) (down e) A c (down_pos e) C h.1) (sign-val s (near_up A c))

pub unsigned_abs-signed : (s : Bool) (n : ℕ) → nat_abs (signed s n) ≡ n
unsigned_abs-signed false n = refl
unsigned_abs-signed true zero = refl
unsigned_abs-signed true (suc n) = refl

pub small_signed : (s : Bool) (n : ℕ) → n ≤ 2 ^ 24 → Small (signed s n)
small_signed s n h = within-unsigned_abs (signed s n) (rw unsigned_abs-signed h)

-- ---- a value on a grid of 2 ^ i to the step: x is A / 2 ^ (i + k), with the sign s
pub round-at : (k i : ℕ) (x : Float) (s : Bool) (A : ℕ) → i + k ≤ 149 → A ≤ 2 ^ 24 → HasValue x s A (2 ^ (i + k)) → round_ui k x ≡ val k (signed s (near_up A (2 ^ i)))
unfolding round_by
round-at k i x s A l a h =
    let y : mul binary32 x (two k) ≡ round binary32 s A (2 ^ i) = mul_at x s A (2 ^ (i + k)) k (pow_pos (i + k)) h A (2 ^ i) (pow_pos i) (rw (pow-add 2 i k) (omega arith)) in
    let w : round_f (mul binary32 x (two k)) ≡ val 0 (signed s (near_up A (2 ^ i))) = ap round_f y ∙ whole-at (round binary32 s A (2 ^ i)) s A (2 ^ i) (pow_pos i) (exact s i A (omega arith) a) in
    ap (λ (z : Float). div binary32 z (two k)) w
    ∙ val-div 0 k (signed s (near_up A (2 ^ i))) (small_signed s (near_up A (2 ^ i)) (le_trans (near_up-le A (2 ^ i) (pow_pos i)) a)) (omega arith)
    ∙ ap (λ (z : ℕ). val z (signed s (near_up A (2 ^ i)))) (add-zero k)

-- ---- every finite x of at most 2 ^ 24 steps is on such a grid
record Grid (k : ℕ) (s : Bool) (x : Float) : Type 0 where
  pub fine : ℕ
  pub count : ℕ
  pub deep : fine + k ≤ 149
  pub few : count ≤ 2 ^ 24
  pub is : HasValue x s count (2 ^ (fine + k))

pow-inj : (a b : ℕ) → 2 ^ a ≤ 2 ^ b → a ≤ b
pow-inj a b h = le_of_suc-le-suc (lt_of_not-le (λ (g : suc b ≤ a). not-le_of_lt (pow-lt g) h))

no_one : (j : ℕ) → 1 * 2 ^ suc j ≡ 1 → ⊥
no_one j h = omega (arith, pow_pos j)

-- what `fits` says of the exponent and the digits
pub fits-says : (s : Bool) (m j : ℕ) → T (fits binary32 (fin s m (negsuc j))) → (m < 2 ^ 24) × (suc j ≤ 149)
unfolding fits
fits-says s zero j t = absurd (no_one j (eqb→eq (1 * 2 ^ suc j) 1 t))
fits-says s (suc m) j t =
    let a : Bool = eqb (suc m % 2) 1 in
    let b : Bool = ltb (suc m) (2 ^ 24) in
    let c : Bool = leb (2 ^ suc j) (2 ^ 149) in
    let d : Bool = ltb (suc m * 1) (2 ^ 128 * 2 ^ suc j) in
    (ltb→lt (suc m) (2 ^ 24) (and_r a b (and_l (a && b) c (and_l (a && b && c) d t))), pow-inj (suc j) 149 (leb→le (2 ^ suc j) (2 ^ 149) (and_r (a && b) c (and_l (a && b && c) d t))))

join-pow : (a b : ℕ) → a ≤ b → 2 ^ (b - a) * 2 ^ a ≡ 2 ^ b
join-pow a b h = sym (pow-add 2 (b - a) a) ∙ ap (λ (z : ℕ). 2 ^ z) (omega arith)

scaled : (m P Q R : ℕ) → 0 < Q → m * 1 * R ≤ 2 ^ 24 * Q → P * Q ≡ R → m * P ≤ 2 ^ 24
scaled m P Q R Q0 h e =
    let g : m * P * Q ≤ 2 ^ 24 * Q = omega (arith, ap (λ (z : ℕ). m * z) e) in
    le_of_mul-le-mul_right g Q0

regroup : (m P Q R : ℕ) → P * Q ≡ R → m * 1 * R ≡ m * P * Q
regroup m P Q R e = omega (arith, ap (λ (z : ℕ). m * z) e)

grid-of : (k : ℕ) → k ≤ 149 → (s : Bool) (m : ℕ) (e : ℤ) → T (fits binary32 (fin s m e)) → m * up e * 2 ^ k ≤ 2 ^ 24 * down e → Grid k s (fin s m e)
grid-of k K s m (pos j) t h = record {
  fine = 0;
  count = m * 2 ^ j * 2 ^ k;
  deep = omega arith;
  few = omega arith;
  is = (refl, rw (zero-add k) (omega arith));
}
grid-of k K s m (negsuc j) t h = go (leb k (suc j)) (leb→le k (suc j)) (nleb→lt k (suc j))
  where
    go : (b : Bool) → (T b → k ≤ suc j) → (T (not b) → suc j < k) → Grid k s (fin s m (negsuc j))
    go true y n =
        let f = fits-says s m j t in
        let le : k ≤ suc j = y tt in
        let back : suc j - k + k ≡ suc j = omega arith in
        record { fine = suc j - k; count = m; deep = omega arith; few = omega arith; is = (refl, rw back (omega arith)) }
    go false y n =
        let lt : suc j < k = n tt in
        let p : 2 ^ (k - suc j) * 2 ^ suc j ≡ 2 ^ k = join-pow (suc j) k (omega arith) in
        record {
          fine = 0;
          count = m * 2 ^ (k - suc j);
          deep = omega arith;
          few = scaled m (2 ^ (k - suc j)) (2 ^ suc j) (2 ^ k) (pow_pos (suc j)) h p;
          is = (refl, rw (zero-add k) (regroup m (2 ^ (k - suc j)) (2 ^ suc j) (2 ^ k) p));
        }

-- ---- THE LAW FOR ANY STEP, of a finite x of at most 2 ^ 24 steps, -0 included: the nearest whole number of them
pub round-law : (k : ℕ) → k ≤ 149 → (s : Bool) (m : ℕ) (e : ℤ) → T (fits binary32 (fin s m e)) → m * up e * 2 ^ k ≤ 2 ^ 24 * down e
    → round_ui k (fin s m e) ≡ val k (signed s (near_up (m * up e * 2 ^ k) (down e)))
round-law k K s m e t h =
    let w = grid-of k K s m e t h in
    round-at k w.fine (fin s m e) s w.count w.deep w.few w.is
    ∙ ap (λ (n : ℕ). val k (signed s n)) (near_up-same w.count (2 ^ w.fine) (m * up e * 2 ^ k) (down e) (pow_pos w.fine) (down_pos e) (fraction (m * up e) w.count (down e) (2 ^ w.fine) (2 ^ k) (2 ^ (w.fine + k)) (pow-add 2 w.fine k) w.is.1))
  where
    fraction : (M A d I K' P : ℕ) → P ≡ I * K' → M * P ≡ A * d → A * d ≡ M * K' * I
    fraction M A d I K' P p q = omega (arith, ap (λ (z : ℕ). M * z) p)

-- ---- it is at most half a step away
near-few : (A d : ℕ) → 0 < d → A ≤ 2 ^ 24 * d → near_up A d ≤ 2 ^ 24
near-few A d D h = omega (arith, near-mono A d (2 ^ 24) 1 D (lit< tt) (omega arith), near-whole (2 ^ 24))

pub half_step : (k : ℕ) → k ≤ 149 → (s : Bool) (m : ℕ) (e : ℤ) → T (fits binary32 (fin s m e)) → m * up e * 2 ^ k ≤ 2 ^ 24 * down e → HalfStep k s m e (round_ui k (fin s m e))
half_step k K s m e t h = record {
  steps = near_up (m * up e * 2 ^ k) (down e);
  is = round-law k K s m e t h;
  few = near-few (m * up e * 2 ^ k) (down e) (down_pos e) h;
  high = near-high (m * up e * 2 ^ k) (down e) (down_pos e);
  low = near-low (m * up e * 2 ^ k) (down e) (down_pos e);
}

-- ---- on `val`: from a finer grid, and exact on whole steps
pub val-round : (k i : ℕ) (z : ℤ) → i + k ≤ 149 → Small z → round_ui k (val (i + k) z) ≡ val k (round_z i z)
val-round k i z l h = round-at k i (val (i + k) z) (sgn z) (nat_abs z) l (unsigned_abs-within h) (val_is (i + k) z l h)

pub signed_back : (z : ℤ) → signed (sgn z) (nat_abs z) ≡ z
signed_back (pos n) = refl
signed_back (negsuc n) = refl

pub val-whole : (k : ℕ) (z : ℤ) → k ≤ 149 → Small z → round_ui k (val k z) ≡ val k z
val-whole k z l h = ap (λ (n : ℕ). round_ui k (val n z)) (sym (zero-add k)) ∙ val-round k 0 z (omega arith) h ∙ ap (λ (n : ℕ). val k (signed (sgn z) n)) (near-whole (nat_abs z)) ∙ ap (val k) (signed_back z)

-- ---- 0.49999997 ticks, the float below a half, round to 0: the sum with 0.5 would round up to 1
pub below-half-a-tick : round_ui tick (of_bits binary32 0x3c7fffff) ≡ val tick (pos 0)
unfolding round_by round_f val round of_bits mul div
below-half-a-tick = refl
