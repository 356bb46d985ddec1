-- Rounding keeps the order: for every step, whatever two floats are rounded. So it turns no rectangle inside out. Assumes nothing.
use Rattle.std.proofs.Common.{◌≡◌, ℕ, zero, suc, ◌+◌, ◌*◌, ◌^◌, ◌<◌, Bool, true, false, not, ◌||◌, T, ◌⊎◌, ℤ, nat_abs, refl, ap, ◌∙◌, inl, inr, mul-pos, arith, le→leb, pow_pos}
use mathlib.Core.Bool.{beq}
use lib.Signed.{le_z}
use lib.Ieee.{Float, nan, inf, fin, binary32, up, down, round, lt, le, eq, mul, div, unlike, sum, add}
use lib.Ieee.Fits.{down_pos}
use Rattle.emath.specs.Rectangles.{near_up, round_f, round_by, round_ui, round_rect}
use Rattle.emath.specs.Domain.{inside_out}
use Rattle.emath.specs.Steps.{two, sgn, signed, val}
use Rattle.emath.proofs.Tests.{neither}
use Rattle.emath.proofs.Order.{Before, before, before-times, sign-round, factor-zero, round-le, val_mono}
use Rattle.emath.proofs.OrderLaws.{Number, number, nan-or-number, lt-nan, le_not_lt, not-lt-le}
use Rattle.emath.proofs.NearUp.{near_up-le, near-mono}
use Rattle.emath.proofs.Rounding.{sign-val}
use Rattle.emath.specs.declared.Rect.{Rect}

signed_le : (s t : Bool) (N M : ℕ) → Before s N t M → T (le_z (signed s N) (signed t M))
signed_le false false N M h = le→leb N M h
signed_le false true N M h = rw (h.0, h.1) tt
signed_le true false zero M h = le→leb 0 M (omega arith)
signed_le true false (suc N) M h = tt
signed_le true true zero zero h = tt
signed_le true true (suc N) zero h = tt
signed_le true true zero (suc M) h = absurd (omega arith)
signed_le true true (suc N) (suc M) h = le→leb M N (omega arith)

near_before : (s t : Bool) (M d N e : ℕ) → 0 < d → 0 < e → Before s (M * e) t (N * d) → Before s (near_up M d) t (near_up N e)
near_before false false M d N e D E h = near-mono M d N e D E h
near_before false true M d N e D E h = (zero_of M d e D E h.0, zero_of N e d E D h.1)
  where
    zero_of : (M d e : ℕ) → 0 < d → 0 < e → M * e ≡ 0 → near_up M d ≡ 0
    zero_of M d e D E h = let z : M ≡ 0 = factor-zero M e E h in rw z (omega (arith, near_up-le 0 d D))
near_before true false M d N e D E h = tt
near_before true true M d N e D E h = near-mono N e M d E D h

-- ---- an infinity and any number
bottom : (y : Float) → Number y → T (le (inf true) y)
unfolding le lt eq
bottom nan p = absurd p
bottom (inf true) p = tt
bottom (inf false) p = tt
bottom (fin t m e) p = tt

top : (y : Float) → Number y → T (le y (inf false))
unfolding le lt eq
top nan p = absurd p
top (inf true) p = tt
top (inf false) p = tt
top (fin t m e) p = tt

-- ---- what takes infinities to themselves and rounds finite values in their order keeps the order of all
record Keeps (f : Float → Float) : Type 0 where
  pub at-inf : (s : Bool) → f (inf s) ≡ inf s
  pub at-fin : (s : Bool) (m : ℕ) (e : ℤ) → Number (f (fin s m e))
  pub of-fin : (s : Bool) (m : ℕ) (e : ℤ) (t : Bool) (n : ℕ) (d : ℤ) → Before s (m * up e * down d) t (n * up d * down e) → T (le (f (fin s m e)) (f (fin t n d)))

low-inf : (s : Bool) → T (s || false) → s ≡ true
low-inf true h = refl
low-inf false h = absurd h

high-inf : (t : Bool) → T (not t || false) → t ≡ false
high-inf true h = absurd h
high-inf false h = refl

keeps : (f : Float → Float) → Keeps f → (x y : Float) → T (le x y) → T (le (f x) (f y))
keeps f k nan y h = absurd (unfold le lt eq in h)
keeps f k (inf s) nan h = absurd (unfold le lt eq in h)
keeps f k (inf s) (inf t) h = rw (k.at-inf s, k.at-inf t) h
keeps f k (inf s) (fin t n d) h = rw (k.at-inf s, low-inf s (unfold le lt eq in h)) (bottom (f (fin t n d)) (k.at-fin t n d))
keeps f k (fin s m e) nan h = absurd (unfold le lt eq in h)
keeps f k (fin s m e) (inf t) h = rw (k.at-inf t, high-inf t (unfold le lt eq in h)) (top (f (fin s m e)) (k.at-fin s m e))
keeps f k (fin s m e) (fin t n d) h = k.of-fin s m e t n d (before s (m * up e * down d) t (n * up d * down e) (unfold le lt eq in h))

-- ---- multiplied, to the nearest whole number, divided
plain : (s : Bool) → unlike s false ≡ s
plain true = refl
plain false = refl

rounds : (s : Bool) (n d : ℕ) → Number (round binary32 (unlike s false) n d)
rounds s n d = number (unlike s false) (round binary32 (unlike s false) n d) (sign-round binary32 (unlike s false) n d)

times : (k : ℕ) → Float → Float
times k x = mul binary32 x (two k)

over : (k : ℕ) → Float → Float
over k x = div binary32 x (two k)

times-keeps : (k : ℕ) → Keeps (times k)
unfolding times mul
times-keeps k = record {
  at-inf = λ (s : Bool). ap inf (plain s);
  at-fin = λ (s : Bool) (m : ℕ) (e : ℤ). rounds s (m * up e * (1 * 2 ^ k)) (down e * 1);
  of-fin = λ (s : Bool) (m : ℕ) (e : ℤ) (t : Bool) (n : ℕ) (d : ℤ) (h : Before s (m * up e * down d) t (n * up d * down e)).
      rw (plain s, plain t) (round-le s t (m * up e * (1 * 2 ^ k)) (down e * 1) (n * up d * (1 * 2 ^ k)) (down d * 1) (omega (arith, down_pos e)) (omega (arith, down_pos d)) (scale s (m * up e) (down e) t (n * up d) (down d) (2 ^ k) h));
}
  where
    scale : (s : Bool) (M a : ℕ) (t : Bool) (N b p : ℕ) → Before s (M * b) t (N * a) → Before s (M * (1 * p) * (b * 1)) t (N * (1 * p) * (a * 1))
    scale s M a t N b p h =
        let x : M * b * p ≡ M * (1 * p) * (b * 1) = omega arith in
        let y : N * a * p ≡ N * (1 * p) * (a * 1) = omega arith in
        rw (← x, ← y) (before-times s (M * b) t (N * a) p h)

over-keeps : (k : ℕ) → Keeps (over k)
unfolding over div
over-keeps k = record {
  at-inf = λ (s : Bool). ap inf (plain s);
  at-fin = λ (s : Bool) (m : ℕ) (e : ℤ). rounds s (m * up e * 1) (1 * 2 ^ k * down e);
  of-fin = λ (s : Bool) (m : ℕ) (e : ℤ) (t : Bool) (n : ℕ) (d : ℤ) (h : Before s (m * up e * down d) t (n * up d * down e)).
      rw (plain s, plain t) (round-le s t (m * up e * 1) (1 * 2 ^ k * down e) (n * up d * 1) (1 * 2 ^ k * down d) (positive e) (positive d) (scale s (m * up e) (down e) t (n * up d) (down d) (2 ^ k) h));
}
  where
    positive : (e : ℤ) → 0 < 1 * 2 ^ k * down e
    positive e = mul-pos (omega (arith, pow_pos k)) (down_pos e)

    scale : (s : Bool) (M a : ℕ) (t : Bool) (N b p : ℕ) → Before s (M * b) t (N * a) → Before s (M * 1 * (1 * p * b)) t (N * 1 * (1 * p * a))
    scale s M a t N b p h =
        let x : M * b * p ≡ M * 1 * (1 * p * b) = omega arith in
        let y : N * a * p ≡ N * 1 * (1 * p * a) = omega arith in
        rw (← x, ← y) (before-times s (M * b) t (N * a) p h)

whole : (s : Bool) (m : ℕ) (e : ℤ) → round_f (fin s m e) ≡ val 0 (signed s (near_up (m * up e) (down e)))
unfolding round_f
whole s m e = sign-val s (near_up (m * up e) (down e))

val-number : (k : ℕ) (z : ℤ) → Number (val k z)
unfolding val
val-number k z = number (sgn z) (round binary32 (sgn z) (nat_abs z) (2 ^ k)) (sign-round binary32 (sgn z) (nat_abs z) (2 ^ k))

whole-keeps : Keeps round_f
whole-keeps = record {
  at-inf = λ (s : Bool). (unfold round_f in refl);
  at-fin = λ (s : Bool) (m : ℕ) (e : ℤ). rw (whole s m e) (val-number 0 (signed s (near_up (m * up e) (down e))));
  of-fin = λ (s : Bool) (m : ℕ) (e : ℤ) (t : Bool) (n : ℕ) (d : ℤ) (h : Before s (m * up e * down d) t (n * up d * down e)).
      rw (whole s m e, whole t n d) (val_mono 0 (signed s (near_up (m * up e) (down e))) (signed t (near_up (n * up d) (down d)))
      (signed_le s t (near_up (m * up e) (down e)) (near_up (n * up d) (down d)) (near_before s t (m * up e) (down e) (n * up d) (down d) (down_pos e) (down_pos d) h)));
}

-- a number and itself
double : Float → Float
double x = add binary32 x x

double-keeps : Keeps double
unfolding double add sum
double-keeps = record {
  at-inf = λ (s : Bool). rw (same s);
  at-fin = λ (s : Bool) (m : ℕ) (e : ℤ). rw (same s) (number s (round binary32 s (m * up e * down e + m * up e * down e) (down e * down e)) (sign-round binary32 s (m * up e * down e + m * up e * down e) (down e * down e)));
  of-fin = λ (s : Bool) (m : ℕ) (e : ℤ) (t : Bool) (n : ℕ) (d : ℤ) (h : Before s (m * up e * down d) t (n * up d * down e)).
      rw (same s, same t) (round-le s t (m * up e * down e + m * up e * down e) (down e * down e) (n * up d * down d + n * up d * down d) (down d * down d) (mul-pos (down_pos e) (down_pos e)) (mul-pos (down_pos d) (down_pos d))
      (scale s (m * up e) (down e) t (n * up d) (down d) h));
}
  where
    same : (s : Bool) → beq s s ≡ true
    same true = refl
    same false = refl

    scale : (s : Bool) (M a : ℕ) (t : Bool) (N b : ℕ) → Before s (M * b) t (N * a) → Before s ((M * a + M * a) * (b * b)) t ((N * b + N * b) * (a * a))
    scale s M a t N b h =
        let x : M * b * (2 * a * b) ≡ (M * a + M * a) * (b * b) = omega arith in
        let y : N * a * (2 * a * b) ≡ (N * b + N * b) * (a * a) = omega arith in
        rw (← x, ← y) (before-times s (M * b) t (N * a) (2 * a * b) h)

pub double-keeps-order : (x y : Float) → T (le x y) → T (le (add binary32 x x) (add binary32 y y))
unfolding double
double-keeps-order x y h = keeps double double-keeps x y h

pub div-keeps-order : (k : ℕ) (x y : Float) → T (le x y) → T (le (div binary32 x (two k)) (div binary32 y (two k)))
unfolding over
div-keeps-order k x y h = keeps (over k) (over-keeps k) x y h

-- ---- THE LAW FOR ANY STEP AND ANY TWO FLOATS
pub round-keeps-order : (k : ℕ) (x y : Float) → T (le x y) → T (le (round_ui k x) (round_ui k y))
unfolding round_by times over
round-keeps-order k x y h =
    keeps (over k) (over-keeps k) (round_f (times k x)) (round_f (times k y))
    (keeps round_f whole-keeps (times k x) (times k y)
    (keeps (times k) (times-keeps k) x y h))

-- ---- so no rectangle is turned inside out
round-nan : (k : ℕ) → round_ui k nan ≡ nan
unfolding round_by round_f mul div
round-nan k = refl

nan-below : (x y : Float) → (x ≡ nan) ⊎ (y ≡ nan) → lt x y ≡ false
nan-below x y (inl e) = rw e (lt-nan y).0
nan-below x y (inr e) = rw e (lt-nan x).1

pub round-not-below : (k : ℕ) (x y : Float) → lt y x ≡ false → lt (round_ui k y) (round_ui k x) ≡ false
round-not-below k x y h = go (nan-or-number x) (nan-or-number y)
  where
    go : (x ≡ nan) ⊎ Number x → (y ≡ nan) ⊎ Number y → lt (round_ui k y) (round_ui k x) ≡ false
    go (inl e) q = nan-below (round_ui k y) (round_ui k x) (inr (ap (round_ui k) e ∙ round-nan k))
    go (inr p) (inl e) = nan-below (round_ui k y) (round_ui k x) (inl (ap (round_ui k) e ∙ round-nan k))
    go (inr p) (inr q) = le_not_lt (round_ui k x) (round_ui k y) (round-keeps-order k x y (not-lt-le x y p q h))

pub round-not-inside-out : (k : ℕ) (r : Rect) → inside_out r ≡ false → inside_out (round_rect k r) ≡ false
unfolding inside_out round_rect
round-not-inside-out k r h =
    let p = neither (lt r.right r.left) (lt r.bottom r.top) h in
    rw (round-not-below k r.left r.right p.0, round-not-below k r.top r.bottom p.1)
