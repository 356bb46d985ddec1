-- A number that is not negative, added, brings no sum below what it was added to; taken away, none above; and of two numbers in their order
-- the difference is not negative. For every f32, infinities and NaN included. Assumes nothing.
use Rattle.std.proofs.Common.{◌≡◌, ℕ, ◌+◌, ◌-◌, ◌*◌, ◌<◌, ◌≤◌, Bool, true, false, cond, not, ◌&&◌, T, ltb, ◌⊎◌, ℤ, pos, sym, refl, ◌∙◌, subst, inl, inr, true≢false, mul-le-mul_right, mul-pos, arith, ltb→lt, nltb→le}
use mathlib.Core.Bool.{beq}
use lib.Ieee.{Float, nan, inf, fin, binary32, up, down, fits, round, sum, neg, add, sub, lt, le, eq, below}
use lib.Ieee.Fits.{down_pos}
use Rattle.emath.proofs.Tests.{not-lt, is_lt}
use Rattle.emath.proofs.Order.{Before, before, Sign, sign-round, zero-round, round-le}
use Rattle.emath.proofs.OrderLaws.{Number, le_not_lt, not-lt-le, lt-nan}
use Rattle.emath.proofs.Zeros.{plus_zero}
use Rattle.emath.proofs.Unique.{own}

-- ---- ±M / p and ±N / q, over the denominator p * q
scale : (p a b : ℕ) → a ≤ b → a * p ≤ b * p
scale p a b h = mul-le-mul_right p h

module _ (M N p q : ℕ) where
  more : M * (p * q) ≤ (M * q + N * p) * p
  more = omega arith

  no_more : N * p ≡ 0 → (M * q + N * p) * p ≤ M * (p * q)
  no_more h = rw h (omega arith)

  less : (M * q - N * p) * p ≤ M * (p * q)
  less = let h : (M * q - N * p) * p ≤ M * q * p = scale p (M * q - N * p) (M * q) (omega arith) in omega (arith, h)

  no_less : N * p ≡ 0 → M * (p * q) ≤ (M * q - N * p) * p
  no_less h = let e : M * q - N * p ≡ M * q = omega arith in rw e (omega arith)

  all-gone : N * p ≡ 0 → M * q ≤ N * p → ((M * q - N * p) * p ≡ 0) × (M * (p * q) ≡ 0)
  all-gone h l = let z : M * q ≡ 0 = omega arith in let e : M * q - N * p ≡ 0 = omega arith in (rw e (omega arith), omega (arith, scale p (M * q) 0 (omega arith)))

-- s is not negative: its sign is +, or it is zero
sign-up : (u : Bool) (n : ℕ) (d : ℤ) (p : ℕ) → T (le plus_zero (fin u n d)) → (u ≡ false) ⊎ (n * up d * p ≡ 0)
unfolding le lt eq
sign-up false n d p h = inl refl
sign-up true n d p h = let z = before false (0 * 1 * down d) true (n * up d * 1) h in inr (let y : n * up d ≡ 0 = omega (arith, z.1) in rw y (omega arith))

-- ---- added
plus-sum : (t : Bool) (M p : ℕ) (u : Bool) (N q : ℕ) → 0 < p → 0 < q → (u ≡ false) ⊎ (N * p ≡ 0) → T (le (round binary32 t M p) (sum binary32 t (M * q) u (N * p) (p * q)))
unfolding sum
plus-sum false M p false N q P Q h = round-le false false M p (M * q + N * p) (p * q) P (mul-pos P Q) (more M N p q)
plus-sum false M p true N q P Q (inl e) = absurd (true≢false e)
plus-sum false M p true N q P Q (inr z) = rw (not-lt (M * q) (N * p) (omega arith)) (round-le false false M p (M * q - N * p) (p * q) P (mul-pos P Q) (no_less M N p q z))
plus-sum true M p false N q P Q h = go (ltb (M * q) (N * p)) (ltb (N * p) (M * q))
  where
    go : (a b : Bool) → T (le (round binary32 true M p) (cond a (round binary32 false (N * p - M * q) (p * q)) (round binary32 b (M * q - N * p) (p * q))))
    go true b = round-le true false M p (N * p - M * q) (p * q) P (mul-pos P Q) tt
    go false true = round-le true true M p (M * q - N * p) (p * q) P (mul-pos P Q) (less M N p q)
    go false false = round-le true false M p (M * q - N * p) (p * q) P (mul-pos P Q) tt
plus-sum true M p true N q P Q (inl e) = absurd (true≢false e)
plus-sum true M p true N q P Q (inr z) = round-le true true M p (M * q + N * p) (p * q) P (mul-pos P Q) (no_more M N p q z)

-- ---- taken away
minus-sum : (t : Bool) (M p : ℕ) (u : Bool) (N q : ℕ) → 0 < p → 0 < q → (u ≡ false) ⊎ (N * p ≡ 0) → T (le (sum binary32 t (M * q) (not u) (N * p) (p * q)) (round binary32 t M p))
unfolding sum
minus-sum true M p false N q P Q h = round-le true true (M * q + N * p) (p * q) M p (mul-pos P Q) P (more M N p q)
minus-sum true M p true N q P Q (inl e) = absurd (true≢false e)
minus-sum true M p true N q P Q (inr z) = rw (not-lt (M * q) (N * p) (omega arith)) (go (ltb (N * p) (M * q)) (nltb→le (N * p) (M * q)))
  where
    go : (b : Bool) → (T (not b) → M * q ≤ N * p) → T (le (round binary32 b (M * q - N * p) (p * q)) (round binary32 true M p))
    go true f = round-le true true (M * q - N * p) (p * q) M p (mul-pos P Q) P (no_less M N p q z)
    go false f = round-le false true (M * q - N * p) (p * q) M p (mul-pos P Q) P (all-gone M N p q z (f tt))
minus-sum false M p false N q P Q h = go (ltb (M * q) (N * p))
  where
    go : (a : Bool) → T (le (cond a (round binary32 true (N * p - M * q) (p * q)) (round binary32 false (M * q - N * p) (p * q))) (round binary32 false M p))
    go true = round-le true false (N * p - M * q) (p * q) M p (mul-pos P Q) P tt
    go false = round-le false false (M * q - N * p) (p * q) M p (mul-pos P Q) P (less M N p q)
minus-sum false M p true N q P Q (inl e) = absurd (true≢false e)
minus-sum false M p true N q P Q (inr z) = round-le false false (M * q + N * p) (p * q) M p (mul-pos P Q) P (no_more M N p q z)

positive-inf : (u : Bool) → T (le plus_zero (inf u)) → u ≡ false
unfolding le lt eq
positive-inf true h = absurd h
positive-inf false h = refl

-- infinities
same-inf : (t : Bool) → lt (inf t) (inf t) ≡ false
unfolding lt
same-inf true = refl
same-inf false = refl

inf-up : (t u : Bool) → u ≡ false → lt (cond (beq t u) (inf t) nan) (inf t) ≡ false
unfolding lt
inf-up true true e = absurd (true≢false e)
inf-up true false e = refl
inf-up false true e = absurd (true≢false e)
inf-up false false e = refl

inf-down : (t u : Bool) → u ≡ false → lt (inf t) (cond (beq t (not u)) (inf t) nan) ≡ false
unfolding lt
inf-down true true e = absurd (true≢false e)
inf-down true false e = refl
inf-down false true e = absurd (true≢false e)
inf-down false false e = refl

far-up : (u : Bool) (x : Float) → Number x → u ≡ false → lt (inf u) x ≡ false
unfolding lt
far-up u nan k e = absurd k
far-up u (inf t) k e = rw e
far-up u (fin t m d) k e = e

far-down : (u : Bool) (t : Bool) (m : ℕ) (d : ℤ) → u ≡ false → lt (fin t m d) (inf (not u)) ≡ false
unfolding lt
far-down true t m d e = absurd (true≢false e)
far-down false t m d e = refl

-- ---- an f32 and what is not negative
pub add-not-below : (x s : Float) → T (fits binary32 x) → T (le plus_zero s) → lt (add binary32 x s) x ≡ false
unfolding add
add-not-below nan s f h = (lt-nan nan).0
add-not-below (inf t) nan f h = (lt-nan (inf t)).0
add-not-below (inf t) (inf u) f h = inf-up t u (positive-inf u h)
add-not-below (inf t) (fin u n d) f h = same-inf t
add-not-below (fin t m e) nan f h = (lt-nan (fin t m e)).0
add-not-below (fin t m e) (inf u) f h = far-up u (fin t m e) tt (positive-inf u h)
add-not-below (fin t m e) (fin u n d) f h =
    le_not_lt (fin t m e) (sum binary32 t (m * up e * down d) u (n * up d * down e) (down e * down d))
    (subst (λ (z : Float). T (le z (sum binary32 t (m * up e * down d) u (n * up d * down e) (down e * down d)))) (own t m e f)
    (plus-sum t (m * up e) (down e) u (n * up d) (down d) (down_pos e) (down_pos d) (sign-up u n d (down e) h)))

pub sub-not-above : (x s : Float) → T (fits binary32 x) → T (le plus_zero s) → lt x (sub binary32 x s) ≡ false
unfolding sub add neg
sub-not-above nan s f h = (lt-nan (sub binary32 nan s)).0
sub-not-above (inf t) nan f h = (lt-nan (inf t)).1
sub-not-above (inf t) (inf u) f h = inf-down t u (positive-inf u h)
sub-not-above (inf t) (fin u n d) f h = same-inf t
sub-not-above (fin t m e) nan f h = (lt-nan (fin t m e)).1
sub-not-above (fin t m e) (inf u) f h = far-down u t m e (positive-inf u h)
sub-not-above (fin t m e) (fin u n d) f h =
    le_not_lt (sum binary32 t (m * up e * down d) (not u) (n * up d * down e) (down e * down d)) (fin t m e)
    (subst (λ (z : Float). T (le (sum binary32 t (m * up e * down d) (not u) (n * up d * down e) (down e * down d)) z)) (own t m e f)
    (minus-sum t (m * up e) (down e) u (n * up d) (down d) (down_pos e) (down_pos d) (sign-up u n d (down e) h)))

-- ---- a difference
above_zero : (n c : ℕ) → 0 < c → T (le plus_zero (round binary32 false n c))
above_zero n c C = subst (λ (z : Float). T (le z (round binary32 false n c))) (zero-round false 1 (omega arith)) (round-le false false 0 1 n c (omega arith) C (omega arith))

zero-below : T (le plus_zero (fin true 0 (pos 0)))
unfolding le lt eq
zero-below = tt

-- ±X - ±Y over c, where ±Y is at most ±X
between : (s : Bool) (X : ℕ) (t : Bool) (Y c : ℕ) → 0 < c → Before t Y s X → T (le plus_zero (sum binary32 s X (not t) Y c))
unfolding sum
between false X false Y c C h = rw (not-lt X Y h) (above_zero (X - Y) c C)
between false X true Y c C h = above_zero (X + Y) c C
between true X false Y c C h = let z : X + Y ≡ 0 = omega (arith, h.0, h.1) in rw (z, zero-round true c C) zero-below
between true X true Y c C h = go (ltb X Y) (ltb Y X) (not-lt Y X h)
  where
    go : (a b : Bool) → b ≡ false → T (le plus_zero (cond a (round binary32 false (Y - X) c) (round binary32 b (X - Y) c)))
    go true b e = above_zero (Y - X) c C
    go false true e = absurd (true≢false e)
    go false false e = above_zero (X - Y) c C

up_inf : (s : Bool) → s ≡ false → T (le plus_zero (inf s))
unfolding le lt eq
up_inf true e = absurd (true≢false e)
up_inf false e = tt

infs : (t s : Bool) → lt (inf s) (inf t) ≡ false → (cond (beq s (not t)) (inf s) nan ≡ nan) ⊎ T (le plus_zero (cond (beq s (not t)) (inf s) nan))
unfolding le lt eq
infs true true e = inl refl
infs true false e = inr tt
infs false true e = absurd (true≢false e)
infs false false e = inl refl

lt-first : (s : Bool) (t : Bool) (m : ℕ) (d : ℤ) → (lt (inf s) (fin t m d) ≡ s) × (lt (fin t m d) (inf s) ≡ not s)
unfolding lt
lt-first s t m d = (refl, refl)

fin-before : (s : Bool) (m : ℕ) (e : ℤ) (t : Bool) (n : ℕ) (d : ℤ) → T (le (fin t n d) (fin s m e)) → Before t (n * up d * down e) s (m * up e * down d)
unfolding le lt eq
fin-before s m e t n d h = before t (n * up d * down e) s (m * up e * down d) h

pub difference-not-below : (a b : Float) → lt b a ≡ false → (sub binary32 b a ≡ nan) ⊎ T (le plus_zero (sub binary32 b a))
unfolding sub add neg
difference-not-below a nan h = inl refl
difference-not-below nan (inf s) h = inl refl
difference-not-below nan (fin s m e) h = inl refl
difference-not-below (inf t) (inf s) h = infs t s h
difference-not-below (fin t n d) (inf s) h = inr (up_inf s (sym (lt-first s t n d).0 ∙ h))
difference-not-below (inf t) (fin s m e) h = inr (up_inf (not t) (sym (lt-first t s m e).1 ∙ h))
difference-not-below (fin t n d) (fin s m e) h =
    inr (between s (m * up e * down d) t (n * up d * down e) (down e * down d) (mul-pos (down_pos e) (down_pos d))
    (fin-before s m e t n d (not-lt-le (fin t n d) (fin s m e) tt tt h)))

-- ---- where a difference is +infinity the two are in their order
minus-inf : (y : Float) → Sign true y → eq y (inf false) ≡ false
unfolding eq
minus-inf nan h = refl
minus-inf (inf t) h = rw h
minus-inf (fin t m e) h = refl

down-sum : (s : Bool) (X : ℕ) (t : Bool) (Y c : ℕ) → T (below s X t Y) → Sign true (sum binary32 s X (not t) Y c)
unfolding sum
down-sum false X false Y c k = let l : X < Y = ltb→lt X Y k in rw (is_lt X Y l) (sign-round binary32 true (Y - X) c)
down-sum false X true Y c k = absurd k
down-sum true X false Y c k = sign-round binary32 true (X + Y) c
down-sum true X true Y c k = let l : Y < X = ltb→lt Y X k in rw (not-lt X Y (omega arith), is_lt Y X l) (sign-round binary32 true (X - Y) c)

infs-fall : (s t : Bool) → T (s && not t) → eq (cond (beq s (not t)) (inf s) nan) (inf false) ≡ false
unfolding eq
infs-fall true true k = absurd k
infs-fall true false k = refl
infs-fall false t k = absurd k

inf-falls : (s : Bool) → T s → eq (inf s) (inf false) ≡ false
unfolding eq
inf-falls true k = refl
inf-falls false k = absurd k

falls : (low high : Float) → T (lt high low) → eq (sub binary32 high low) (inf false) ≡ false
unfolding lt sub add neg
falls low nan k = absurd k
falls nan (inf s) k = absurd k
falls (inf t) (inf s) k = infs-fall s t k
falls (fin t n d) (inf s) k = inf-falls s k
falls nan (fin s m e) k = absurd k
falls (inf t) (fin s m e) k = inf-falls (not t) k
falls (fin t n d) (fin s m e) k =
    minus-inf (sum binary32 s (m * up e * down d) (not t) (n * up d * down e) (down e * down d)) (down-sum s (m * up e * down d) t (n * up d * down e) (down e * down d) k)

pub infinitely-apart : (low high : Float) → eq (sub binary32 high low) (inf false) ≡ true → lt high low ≡ false
infinitely-apart low high h = go (lt high low) refl
  where
    go : (b : Bool) → lt high low ≡ b → b ≡ false
    go true e = absurd (true≢false (sym h ∙ falls low high (rw e tt)))
    go false e = refl
