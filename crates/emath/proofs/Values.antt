-- The laws on `val`: what proofs cite. Assumes nothing.
use Rattle.std.proofs.Common.{◌≡◌, ℕ, zero, suc, ◌+◌, ◌-◌, ◌*◌, ◌/◌, ◌%◌, ◌^◌, ◌<◌, ◌≤◌, Bool, true, false, cond, not, ltb, ℤ, pos, negsuc, ◌+ℤ◌, ◌-ℤ◌, ◌*ℤ◌, neg_ℤ, nat_abs, refl, ap, ◌∙◌, zero-lt-suc, mul_comm, mul-pos, arith, pow_pos, pow-add}
use Prim.Native.Nat.{compare}
use native.Mathlib.Nat.{eq_of_mul-eq-mul_right}
use lib.Signed.{lt_z, le_z}
use lib.Ieee.{Float, nan, inf, fin, Format, prec, emax, low, size, nearest, odd, units, binary32, up, down, round, add, sub, mul, div, neg, lt, le, eq, unlike}
use lib.Ieee.Fits.{down_pos}
use lib.Ieee.Exact.{HasValue}
use lib.Ieee.Scale.{round_same}
use Rattle.emath.specs.Rectangles.{min_f, max_f}
use Rattle.emath.specs.Steps.{two, sgn, val}
use Rattle.emath.proofs.Whole.{more, less, sum, max_z, min_z, whole}
use Rattle.emath.proofs.Exact.{Small, eq_z, val_is, add_is, sub_is, lt-is, eq_is, le_is, ne-is}

module _ (k : ℕ) (l : k ≤ 149) (a b : ℤ) (A : Small a) (B : Small b) where
  pub val-add : add binary32 (val k a) (val k b) ≡ val k (a +ℤ b)
  val-add = add_is (val k a) (val k b) k a b (val_is k a l A) (val_is k b l B)

  pub val-sub : sub binary32 (val k a) (val k b) ≡ val k (a -ℤ b)
  val-sub = sub_is (val k a) (val k b) k a b (val_is k a l A) (val_is k b l B)

  pub val-lt : lt (val k a) (val k b) ≡ lt_z a b
  val-lt = lt-is (val k a) (val k b) k a b (val_is k a l A) (val_is k b l B)

  pub val-le : le (val k a) (val k b) ≡ le_z a b
  val-le = le_is (val k a) (val k b) k a b (val_is k a l A) (val_is k b l B)

  pub val-eq : eq (val k a) (val k b) ≡ eq_z a b
  val-eq = eq_is (val k a) (val k b) k a b (val_is k a l A) (val_is k b l B)

push : (t : Bool) (k : ℕ) (a b : ℤ) → cond t (val k b) (val k a) ≡ val k (cond t b a)
push true k a b = refl
push false k a b = refl

module _ (k : ℕ) (l : k ≤ 149) (a b : ℤ) (A : Small a) (B : Small b) where
  pub val-max : max_f (val k a) (val k b) ≡ val k (max_z a b)
  unfolding max_f
  val-max = rw (val-lt k l a b A B, ne-is (val k a) k a (val_is k a l A)) (push (lt_z a b) k a b)

  pub val-min : min_f (val k a) (val k b) ≡ val k (min_z a b)
  unfolding min_f
  val-min = rw (val-lt k l b a B A, ne-is (val k a) k a (val_is k a l A)) (push (lt_z b a) k a b)

-- ---- an opposite: a zero's is -0, which is no `val`
neg-odd : (d : ℕ) (s : Bool) (q k l : ℕ) → neg (odd d s q k l) ≡ odd d (not s) q k l
unfolding neg odd
neg-odd d s zero k l = refl
neg-odd d s (suc q) k l = refl

neg-units : (f : Format) (s : Bool) (q k : ℕ) → neg (units f s q k) ≡ units f (not s) q k
unfolding units
neg-units f s q k = go (ltb (q * 2 ^ k) (2 ^ (low f + suc (emax f))))
  where
    go : (b : Bool) → neg (cond b (odd (suc (prec f)) s q k (low f)) (inf s)) ≡ cond b (odd (suc (prec f)) (not s) q k (low f)) (inf (not s))
    go true = neg-odd (suc (prec f)) s q k (low f)
    go false = unfold neg in refl

pub neg-round : (f : Format) (s : Bool) (n d : ℕ) → neg (round f s n d) ≡ round f (not s) n d
unfolding round
neg-round f s n d = neg-units f s (nearest (n * 2 ^ low f / (d * 2 ^ (size (n * 2 ^ low f / d) - prec f))) (compare (n * 2 ^ low f % (d * 2 ^ (size (n * 2 ^ low f / d) - prec f)) * 2) (d * 2 ^ (size (n * 2 ^ low f / d) - prec f)))) (size (n * 2 ^ low f / d) - prec f)

pub val-neg : (k : ℕ) (a : ℤ) → 0 < nat_abs a → neg (val k a) ≡ val k (neg_ℤ a)
unfolding val
val-neg k (pos zero) h = absurd (omega arith)
val-neg k (pos (suc n)) h = neg-round binary32 false (suc n) (2 ^ k)
val-neg k (negsuc n) h = neg-round binary32 true (suc n) (2 ^ k)

flip : (s : Bool) → unlike s false ≡ s
flip true = refl
flip false = refl

pub mul_at : (x : Float) (s : Bool) (A c j : ℕ) → 0 < c → HasValue x s A c → (n d : ℕ) → 0 < d → A * 2 ^ j * d ≡ n * c → mul binary32 x (two j) ≡ round binary32 s n d
unfolding mul
mul_at nan s A c j C h n d D e = absurd h
mul_at (inf t) s A c j C h n d D e = absurd h
mul_at (fin t m g) s A c j C h n d D e = rw (flip t, h.0) (round_same binary32 s (m * up g * (1 * 2 ^ j)) (down g * 1) n d (omega (arith, down_pos g)) D
    (eq_of_mul-eq-mul_right c C (m * up g * (1 * 2 ^ j) * d) (n * (down g * 1)) (omega (arith, ap (λ (z : ℕ). z * (2 ^ j * d)) h.1, ap (λ (z : ℕ). z * down g) e))))

pub div-at : (x : Float) (s : Bool) (A c j : ℕ) → 0 < c → HasValue x s A c → (n d : ℕ) → 0 < d → A * d ≡ n * (c * 2 ^ j) → div binary32 x (two j) ≡ round binary32 s n d
unfolding div
div-at nan s A c j C h n d D e = absurd h
div-at (inf t) s A c j C h n d D e = absurd h
div-at (fin t m g) s A c j C h n d D e = rw (flip t, h.0) (round_same binary32 s (m * up g * 1) (1 * 2 ^ j * down g) n d (mul-pos (omega (arith, pow_pos j)) (down_pos g)) D
    (eq_of_mul-eq-mul_right c C (m * up g * 1 * d) (n * (1 * 2 ^ j * down g)) (omega (arith, ap (λ (z : ℕ). z * d) h.1, ap (λ (z : ℕ). z * down g) e))))

half_at : (x : Float) (s : Bool) (A c : ℕ) → 0 < c → HasValue x s A c → (n d : ℕ) → 0 < d → A * d ≡ n * (c * 2) → mul binary32 x (fin false 1 (negsuc 0)) ≡ round binary32 s n d
unfolding mul
half_at nan s A c C h n d D e = absurd h
half_at (inf t) s A c C h n d D e = absurd h
half_at (fin t m g) s A c C h n d D e = rw (flip t, h.0) (round_same binary32 s (m * up g * (1 * 1)) (down g * 2 ^ 1) n d (omega (arith, down_pos g)) D
    (eq_of_mul-eq-mul_right c C (m * up g * (1 * 1) * d) (n * (down g * 2 ^ 1)) (omega (arith, ap (λ (z : ℕ). z * d) h.1, ap (λ (z : ℕ). z * down g) e))))

module _ (k j : ℕ) (a : ℤ) (A : Small a) where
  pub val-mul : j + k ≤ 149 → mul binary32 (val (j + k) a) (two j) ≡ val k a
  unfolding val
  val-mul l = mul_at (val (j + k) a) (sgn a) (nat_abs a) (2 ^ (j + k)) j (pow_pos (j + k)) (val_is (j + k) a l A) (nat_abs a) (2 ^ k) (pow_pos k) (rw (pow-add 2 j k) (omega arith))

  pub val-div : k ≤ 149 → div binary32 (val k a) (two j) ≡ val (j + k) a
  unfolding val
  val-div l = div-at (val k a) (sgn a) (nat_abs a) (2 ^ k) j (pow_pos k) (val_is k a l A) (nat_abs a) (2 ^ (j + k)) (pow_pos (j + k)) (rw (pow-add 2 j k) (omega arith))

  pub val-half : k ≤ 149 → mul binary32 (val k a) (fin false 1 (negsuc 0)) ≡ val (1 + k) a
  unfolding val
  val-half l = half_at (val k a) (sgn a) (nat_abs a) (2 ^ k) (pow_pos k) (val_is k a l A) (nat_abs a) (2 ^ (1 + k)) (pow_pos (1 + k)) (rw (pow-add 2 1 k) (omega arith))

-- ---- the same number at a finer k
unsigned_abs-neg : (n : ℕ) → nat_abs (neg_ℤ (pos n)) ≡ n
unsigned_abs-neg zero = refl
unsigned_abs-neg (suc n) = refl

sgn-neg : (n : ℕ) → 0 < n → sgn (neg_ℤ (pos n)) ≡ true
sgn-neg zero h = absurd (omega arith)
sgn-neg (suc n) h = refl

pub nat_abs_mul : (a : ℤ) (p : ℕ) → nat_abs (a *ℤ pos p) ≡ nat_abs a * p
nat_abs_mul (pos a) p = refl
nat_abs_mul (negsuc a) p = unsigned_abs-neg (suc a * p)

pub sgn-mul : (a : ℤ) (p : ℕ) → 0 < p → sgn (a *ℤ pos p) ≡ sgn a
sgn-mul (pos a) p h = refl
sgn-mul (negsuc a) p h = sgn-neg (suc a * p) (mul-pos (zero-lt-suc a) h)

pub val-finer : (k j : ℕ) (a : ℤ) → val (j + k) (a *ℤ pos (2 ^ j)) ≡ val k a
unfolding val
val-finer k j a = rw (nat_abs_mul a (2 ^ j), sgn-mul a (2 ^ j) (pow_pos j)) (round_same binary32 (sgn a) (nat_abs a * 2 ^ j) (2 ^ (j + k)) (nat_abs a) (2 ^ k) (pow_pos (j + k)) (pow_pos k) (rw (pow-add 2 j k) (omega arith)))

-- ---- an infinity
fin-add : (x : Float) (s t : Bool) (A c : ℕ) → HasValue x t A c → (add binary32 (inf s) x ≡ inf s) × (add binary32 x (inf s) ≡ inf s)
unfolding add
fin-add nan s t A c h = absurd h
fin-add (inf r) s t A c h = absurd h
fin-add (fin r m e) s t A c h = (refl, refl)

fin-lt : (x : Float) (s t : Bool) (A c : ℕ) → HasValue x t A c → (lt (inf s) x ≡ s) × (lt x (inf s) ≡ not s) × (eq (inf s) x ≡ false) × (eq x (inf s) ≡ false)
unfolding lt eq
fin-lt nan s t A c h = absurd h
fin-lt (inf r) s t A c h = absurd h
fin-lt (fin r m e) s t A c h = (refl, refl, refl, refl)

module _ (k : ℕ) (l : k ≤ 149) (a : ℤ) (A : Small a) (s : Bool) where
  pub inf-add : add binary32 (inf s) (val k a) ≡ inf s
  inf-add = (fin-add (val k a) s (sgn a) (nat_abs a) (2 ^ k) (val_is k a l A)).0

  pub add-inf : add binary32 (val k a) (inf s) ≡ inf s
  add-inf = (fin-add (val k a) s (sgn a) (nat_abs a) (2 ^ k) (val_is k a l A)).1

  pub inf-lt : lt (inf s) (val k a) ≡ s
  inf-lt = (fin-lt (val k a) s (sgn a) (nat_abs a) (2 ^ k) (val_is k a l A)).0

  pub lt-inf : lt (val k a) (inf s) ≡ not s
  lt-inf = (fin-lt (val k a) s (sgn a) (nat_abs a) (2 ^ k) (val_is k a l A)).1

-- ---- at one k: half of a number that is even there
parts-mul : (a : ℤ) → (more (a *ℤ pos 2) ≡ more a * 2) × (less (a *ℤ pos 2) ≡ less a * 2)
parts-mul (pos a) = (refl, refl)
parts-mul (negsuc a) = go (suc a * 2) (omega arith)
  where
    go : (n : ℕ) → 0 < n → (more (neg_ℤ (pos n)) ≡ 0 * 2) × (less (neg_ℤ (pos n)) ≡ n)
    go zero h = absurd (omega arith)
    go (suc n) h = (refl, refl)

pub twice : (a : ℤ) → a +ℤ a ≡ a *ℤ pos 2
twice a = omega (arith, whole, sum a a, parts-mul a)

module _ (k : ℕ) (l : k ≤ 149) (a : ℤ) (A : Small (a +ℤ a)) where
  pub val-halve : div binary32 (val k (a +ℤ a)) (two 1) ≡ val k a
  val-halve = val-div k 1 (a +ℤ a) A l ∙ ap (val (1 + k)) (twice a) ∙ val-finer k 1 a

  pub val-times-half : mul binary32 (val k (a +ℤ a)) (fin false 1 (negsuc 0)) ≡ val k a
  val-times-half = val-half k 1 (a +ℤ a) A l ∙ ap (val (1 + k)) (twice a) ∙ val-finer k 1 a

pub eq-inf : (k : ℕ) → k ≤ 149 → (a : ℤ) → Small a → (s : Bool) → eq (val k a) (inf s) ≡ false
eq-inf k l a A s = (fin-lt (val k a) s (sgn a) (nat_abs a) (2 ^ k) (val_is k a l A)).3

-- ---- a count times a length
pub times-at : (x y : Float) (t : Bool) (n A c : ℕ) → 0 < c → HasValue x false n 1 → HasValue y t A c → mul binary32 x y ≡ round binary32 t (n * A) c
unfolding mul
times-at nan y t n A c C p q = absurd p
times-at (inf r) y t n A c C p q = absurd p
times-at (fin r m e) nan t n A c C p q = absurd q
times-at (fin r m e) (inf r') t n A c C p q = absurd q
times-at (fin r m e) (fin r' m' d) t n A c C p q =
    rw (p.0, q.0, plain t) (round_same binary32 t (m * up e * (m' * up d)) (down e * down d) (n * A) c (mul-pos (down_pos e) (down_pos d)) C
    (omega (arith, ap (λ (z : ℕ). z * (m' * up d * c)) p.1, ap (λ (z : ℕ). z * (n * down e)) q.1)))
  where
    plain : (t : Bool) → unlike false t ≡ t
    plain true = refl
    plain false = refl

-- a count of 0 is left out: 0 times a negative length is -0
pub val-times : (k n : ℕ) → k ≤ 149 → 0 < n → Small (pos n) → (a : ℤ) → Small a → mul binary32 (val 0 (pos n)) (val k a) ≡ val k (a *ℤ pos n)
val-times k n l n0 N a A = times-at (val 0 (pos n)) (val k a) (sgn a) n (nat_abs a) (2 ^ k) (pow_pos k) (val_is 0 (pos n) (omega arith) N) (val_is k a l A) ∙ fold
  where
    fold : round binary32 (sgn a) (n * nat_abs a) (2 ^ k) ≡ val k (a *ℤ pos n)
    fold = unfold val in rw (nat_abs_mul a n, sgn-mul a n n0) (ap (λ (z : ℕ). round binary32 (sgn a) z (2 ^ k)) (mul_comm n (nat_abs a)))
