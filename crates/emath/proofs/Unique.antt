-- Two f32 of the same sign and value are the same, so a value that is already an f32 is left as it is by `round`, and so by taking zero
-- away. Assumes nothing.
use Rattle.std.proofs.Common.{◌≡◌, ℕ, zero, suc, ◌+◌, ◌-◌, ◌*◌, ◌%◌, ◌^◌, ◌<◌, ◌≤◌, Bool, true, false, ◌&&◌, T, eqb, ltb, leb, ◌⊎◌, ℤ, pos, negsuc, sym, refl, ap, ◌∙◌, inl, inr, zero-lt-suc, mul-pos, mul-one, arith, eqb→eq, pow_pos, pow-add}
use lib.Ieee.Scale.{round_same}
use native.Mathlib.Nat.{eq_of_mul-eq-mul_right}
use native.Mathlib.Nat.{pow-succ'}
use lib.Ieee.{Float, nan, inf, fin, binary32, up, down, fits, round, sum, neg, add, sub}
use lib.Ieee.Fits.{up_pos, down_pos, and_l, round-fits}
use lib.Ieee.Exact.{HasValue}
use Rattle.emath.specs.Rectangles.{round_ui}
use Rattle.emath.proofs.Tests.{not-lt, is_lt}
use Rattle.emath.proofs.Exact.{exact}
use Rattle.emath.proofs.Zeros.{plus_zero, minus_zero, val-zero, round-minus-zero}
use Rattle.emath.proofs.Rounding.{fits-says, val-whole}
use Rattle.emath.proofs.NearestWhole.{own-whole}

-- ---- an odd number times a power of two, in one way
odd_pow : (m n a b : ℕ) → m % 2 ≡ 1 → n % 2 ≡ 1 → m * 2 ^ a ≡ n * 2 ^ b → (m ≡ n) × (a ≡ b)
odd_pow m n zero zero o p h = (omega arith, refl)
odd_pow m n zero (suc b) o p h = absurd (omega (arith, h, ap (λ (x : ℕ). n * x) (pow-succ' 2 b)))
odd_pow m n (suc a) zero o p h = absurd (omega (arith, h, ap (λ (x : ℕ). m * x) (pow-succ' 2 a)))
odd_pow m n (suc a) (suc b) o p h =
    let e : m * 2 ^ a ≡ n * 2 ^ b = omega (arith, h, ap (λ (x : ℕ). m * x) (pow-succ' 2 a), ap (λ (x : ℕ). n * x) (pow-succ' 2 b)) in
    let r = odd_pow m n a b o p e in
    (r.0, ap suc r.1)

-- ---- what `fits` says of m and e
is_odd : (s : Bool) (m : ℕ) (e : ℤ) → T (fits binary32 (fin s (suc m) e)) → suc m % 2 ≡ 1
unfolding fits
is_odd s m e t =
    eqb→eq (suc m % 2) 1 (and_l (eqb (suc m % 2) 1) (ltb (suc m) (2 ^ 24)) (and_l (eqb (suc m % 2) 1 && ltb (suc m) (2 ^ 24)) (leb (down e) (2 ^ 149))
    (and_l (eqb (suc m % 2) 1 && ltb (suc m) (2 ^ 24) && leb (down e) (2 ^ 149)) (ltb (suc m * up e) (2 ^ 128 * down e)) t)))

one_power : (k : ℕ) → 1 * 2 ^ suc k ≡ 1 → ⊥
one_power k h = omega (arith, h, pow-succ' 2 k, pow_pos k)

zero_exp : (s : Bool) (e : ℤ) → T (fits binary32 (fin s zero e)) → e ≡ pos 0
unfolding fits
zero_exp s (pos zero) t = refl
zero_exp s (pos (suc k)) t = absurd (one_power k (let h : 2 ^ suc k * 1 ≡ 1 = eqb→eq (2 ^ suc k * 1) 1 t in omega arith))
zero_exp s (negsuc k) t = absurd (one_power k (eqb→eq (1 * 2 ^ suc k) 1 t))

-- ---- equal values, equal floats
-- m * 2 ^ e against n * 2 ^ g, as odd numbers times powers of two
same-exp : (m : ℕ) (e : ℤ) (n : ℕ) (g : ℤ) → m % 2 ≡ 1 → n % 2 ≡ 1 → m * up e * down g ≡ n * up g * down e → (m ≡ n) × (e ≡ g)
same-exp m (pos a) n (pos b) o p h = let r = odd_pow m n a b o p (omega arith) in (r.0, ap pos r.1)
same-exp m (pos a) n (negsuc b) o p h =
    let r = odd_pow m n (a + suc b) 0 o p (rw (pow-add 2 a (suc b)) (omega arith)) in absurd (omega (arith, r.1))
same-exp m (negsuc a) n (pos b) o p h =
    let r = odd_pow m n 0 (b + suc a) o p (rw (pow-add 2 b (suc a)) (omega arith)) in absurd (omega (arith, r.1))
same-exp m (negsuc a) n (negsuc b) o p h =
    let r = odd_pow m n (suc b) (suc a) o p (omega arith) in (r.0, ap negsuc (omega (arith, r.1)))

cross : (M N A c d e : ℕ) → 0 < c → M * c ≡ A * d → N * c ≡ A * e → M * e ≡ N * d
cross M N A c d e C p q = eq_of_mul-eq-mul_right c C (M * e) (N * d) (omega (arith, ap (λ (z : ℕ). z * e) p, ap (λ (z : ℕ). z * d) q))

none_of : (n u d : ℕ) → 0 < u → 0 < d → 0 ≡ suc n * u * d → ⊥
none_of n u d U D h = omega (arith, h, mul-pos (mul-pos (zero-lt-suc n) U) D)

pub unique : (x y : Float) (s : Bool) (A c : ℕ) → 0 < c → T (fits binary32 x) → T (fits binary32 y) → HasValue x s A c → HasValue y s A c → x ≡ y
unique nan y s A c C p q v w = absurd v
unique (inf t) y s A c C p q v w = absurd v
unique (fin t m e) nan s A c C p q v w = absurd w
unique (fin t m e) (inf u) s A c C p q v w = absurd w
unique (fin t zero e) (fin u zero g) s A c C p q v w = λ i. fin ((v.0 ∙ sym w.0) i) zero ((zero_exp t e p ∙ sym (zero_exp u g q)) i)
unique (fin t zero e) (fin u (suc n) g) s A c C p q v w =
    absurd (none_of n (up g) (down e) (up_pos g) (down_pos e) (let h = cross (zero * up e) (suc n * up g) A c (down e) (down g) C v.1 w.1 in omega (arith, h)))
unique (fin t (suc m) e) (fin u zero g) s A c C p q v w =
    absurd (none_of m (up e) (down g) (up_pos e) (down_pos g) (let h = cross (suc m * up e) (zero * up g) A c (down e) (down g) C v.1 w.1 in omega (arith, h)))
unique (fin t (suc m) e) (fin u (suc n) g) s A c C p q v w =
    let r = same-exp (suc m) e (suc n) g (is_odd t m e p) (is_odd u n g q) (cross (suc m * up e) (suc n * up g) A c (down e) (down g) C v.1 w.1) in
    λ i. fin ((v.0 ∙ sym w.0) i) (r.0 i) (r.1 i)

-- ---- a value that is an f32 already
pub own : (s : Bool) (m : ℕ) (e : ℤ) → T (fits binary32 (fin s m e)) → round binary32 s (m * up e) (down e) ≡ fin s m e
own s m (pos j) f = own-whole s m j f
own s m (negsuc j) f =
    let g = fits-says s m j f in
    unique (round binary32 s (m * 1) (2 ^ suc j)) (fin s m (negsuc j)) s m (2 ^ suc j) (pow_pos (suc j)) (round-fits binary32 s (m * 1) (2 ^ suc j)) f
    (rw (mul-one m) (exact s (suc j) m g.1 (omega arith))) (refl, omega arith)

-- the same over another fraction
own-as : (s : Bool) (m : ℕ) (e : ℤ) (n d : ℕ) → T (fits binary32 (fin s m e)) → 0 < d → n * down e ≡ m * up e * d → round binary32 s n d ≡ fin s m e
own-as s m e n d f D h = round_same binary32 s n d (m * up e) (down e) D (down_pos e) h ∙ own s m e f

-- ---- less zero
pub less_zero : (x : Float) → T (fits binary32 x) → sub binary32 x plus_zero ≡ x
unfolding sub add neg sum
less_zero nan f = refl
less_zero (inf s) f = refl
less_zero (fin true m e) f = own-as true m e (m * up e * 1 + 0 * 1 * down e) (down e * 1) f (omega (arith, down_pos e)) (omega arith)
less_zero (fin false m e) f = rw (not-lt (m * up e * 1) (0 * 1 * down e) (omega arith)) (own-as false m e (m * up e * 1 - 0 * 1 * down e) (down e * 1) f (omega (arith, down_pos e)) (less (m * up e) (down e)))
  where
    less : (M d : ℕ) → (M * 1 - 0 * 1 * d) * d ≡ M * (d * 1)
    less M d = let z : M * 1 - 0 * 1 * d ≡ M = omega arith in rw z (omega arith)

-- ---- plus zero: -0 becomes +0, and rounding gives +0 for both
plus-zero : (x : Float) → T (fits binary32 x) → (add binary32 x plus_zero ≡ x) ⊎ (x ≡ minus_zero)
unfolding add sum
plus-zero nan f = inl refl
plus-zero (inf s) f = inl refl
plus-zero (fin false m e) f = inl (own-as false m e (m * up e * 1 + 0 * 1 * down e) (down e * 1) f (omega (arith, down_pos e)) (omega arith))
plus-zero (fin true zero e) f = inr (ap (fin true zero) (zero_exp true e f))
plus-zero (fin true (suc m) e) f =
    inl (rw (not-lt (suc m * up e * 1) (0 * 1 * down e) (omega arith), is_lt (0 * 1 * down e) (suc m * up e * 1) (positive (up e) (down e) (up_pos e)))
    (own-as true (suc m) e (suc m * up e * 1 - 0 * 1 * down e) (down e * 1) f (omega (arith, down_pos e)) (less (suc m * up e) (down e))))
  where
    positive : (u d : ℕ) → 0 < u → 0 * 1 * d < suc m * u * 1
    positive u d U = omega (arith, mul-pos (zero-lt-suc m) U)

    less : (M d : ℕ) → (M * 1 - 0 * 1 * d) * d ≡ M * (d * 1)
    less M d = let z : M * 1 - 0 * 1 * d ≡ M = omega arith in rw z (omega arith)

zeros-sum : add binary32 minus_zero plus_zero ≡ plus_zero
unfolding add sum round
zeros-sum = refl

pub round-plus-zero : (k : ℕ) → k ≤ 149 → (x : Float) → T (fits binary32 x) → round_ui k (add binary32 x plus_zero) ≡ round_ui k x
round-plus-zero k l x f = go (plus-zero x f)
  where
    round-plus : (k : ℕ) → k ≤ 149 → round_ui k plus_zero ≡ plus_zero
    round-plus k l = ap (round_ui k) (sym (val-zero k)) ∙ val-whole k (pos 0) l (omega arith) ∙ val-zero k

    go : (add binary32 x plus_zero ≡ x) ⊎ (x ≡ minus_zero) → round_ui k (add binary32 x plus_zero) ≡ round_ui k x
    go (inl e) = ap (round_ui k) e
    go (inr e) = rw (e, zeros-sum) (round-plus k l ∙ sym (round-minus-zero k l))
