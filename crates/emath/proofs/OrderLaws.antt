-- The order of floats is transitive, and of two that are not NaN one is at most the other. Assumes nothing.
use Rattle.std.proofs.Common.{◌≡◌, ℕ, ◌+◌, ◌*◌, ◌<◌, ◌≤◌, Bool, true, false, not, ◌&&◌, ◌||◌, T, eqb, ltb, ◌⊎◌, ℤ, pos, ◌+ℤ◌, sym, refl, ◌∙◌, inl, inr, true≢false, eq-or-lt_of_le, arith, lt→ltb, nltb→le}
use mathlib.Core.Bool.{beq}
use lib.Signed.{le_z}
use lib.Ieee.{Float, nan, inf, fin, up, down, lt, le, eq, below, level}
use lib.Ieee.Fits.{down_pos, and_i, eq→eqb}
use lib.Ieee.Positive.{through}
use Rattle.emath.specs.Steps.{val}
use Rattle.emath.proofs.Tests.{or_l, or_r, bools, not-lt, is-no}
use Rattle.emath.proofs.Whole.{more, less, Within, sum, le_z→, nle_z→, →le_z}
use Rattle.emath.proofs.Values.{val-le}
use Rattle.emath.proofs.Order.{Before, before, Sign, apart, factor-zero, val_mono}

-- ---- the order of floats is transitive
after : (s : Bool) (X : ℕ) (t : Bool) (Y : ℕ) → Before s X t Y → T (below s X t Y || level s X t Y)
after false X false Y h = elim (eq-or-lt_of_le h) [ inl u ↦ or_r (ltb X Y) (eqb X Y && true) (and_i (eqb X Y) true (eq→eqb u) tt) | inr u ↦ or_l (ltb X Y) (eqb X Y && true) (lt→ltb X Y u) ]
after false X true Y h = let e : X ≡ Y = h.0 ∙ sym h.1 in and_i (eqb X Y) (eqb X 0) (eq→eqb e) (eq→eqb h.0)
after true X false Y h = apart X Y
after true X true Y h = elim (eq-or-lt_of_le h) [ inl u ↦ or_r (ltb Y X) (eqb X Y && true) (and_i (eqb X Y) true (eq→eqb (sym u)) tt) | inr u ↦ or_l (ltb Y X) (eqb X Y && true) (lt→ltb Y X u) ]

factor-zero-le : (m n d e : ℕ) → 0 < d → n ≡ 0 → m * d ≤ n * e → m ≡ 0
factor-zero-le m n d e D z h = let k : m * d ≤ 0 * e = rw z at h in factor-zero m d D (omega arith)

trans : (s t u : Bool) (M a N b P c : ℕ) → 0 < a → 0 < b → 0 < c → Before s (M * b) t (N * a) → Before t (N * c) u (P * b) → Before s (M * c) u (P * a)
trans false false false M a N b P c A B C h k = through M N P a b c B h k
trans false false true M a N b P c A B C h k =
    let n : N ≡ 0 = factor-zero N c C k.0 in
    let p : P ≡ 0 = factor-zero P b B k.1 in
    let m : M ≡ 0 = factor-zero-le M N b a B n h in
    (rw m (omega arith), rw p (omega arith))
trans false true false M a N b P c A B C h k = let m : M ≡ 0 = factor-zero M b B h.0 in rw m (omega arith)
trans false true true M a N b P c A B C h k =
    let m : M ≡ 0 = factor-zero M b B h.0 in
    let n : N ≡ 0 = factor-zero N a A h.1 in
    let p : P ≡ 0 = factor-zero-le P N b c B n k in
    (rw m (omega arith), rw p (omega arith))
trans true false false M a N b P c A B C h k = tt
trans true false true M a N b P c A B C h k = let p : P ≡ 0 = factor-zero P b B k.1 in rw p (omega arith)
trans true true false M a N b P c A B C h k = tt
trans true true true M a N b P c A B C h k = through P N M c b a B k h

yes-s : (s : Bool) → T (s || false) → s ≡ true
yes-s true h = refl
yes-s false h = absurd h

top-inf : (u : Bool) → T ((true && not u) || beq true u)
top-inf true = tt
top-inf false = tt

inf3 : (s t u : Bool) → T ((s && not t) || beq s t) → T ((t && not u) || beq t u) → T ((s && not u) || beq s u)
inf3 true t u h k = top-inf u
inf3 false true u h k = absurd h
inf3 false false u h k = k

inf2 : (s t : Bool) → T ((s && not t) || beq s t) → T (t || false) → T (s || false)
inf2 true t h k = tt
inf2 false true h k = absurd h
inf2 false false h k = k

low2 : (t u : Bool) → T (not t || false) → T ((t && not u) || beq t u) → T (not u || false)
low2 true u h k = absurd h
low2 false true h k = absurd k
low2 false false h k = tt

clash2 : (t : Bool) → T (not t || false) → T (t || false) → ⊥
clash2 true h k = h
clash2 false h k = k

pub le_trans : (x y z : Float) → T (le x y) → T (le y z) → T (le x z)
unfolding le lt eq
le_trans nan y z h k = absurd h
le_trans (inf s) nan z h k = absurd h
le_trans (inf s) (inf t) nan h k = absurd k
le_trans (inf s) (inf t) (inf u) h k = inf3 s t u h k
le_trans (inf s) (inf t) (fin u p g) h k = inf2 s t h k
le_trans (inf s) (fin t n d) nan h k = absurd k
le_trans (inf s) (fin t n d) (inf u) h k = rw (yes-s s h) (top-inf u)
le_trans (inf s) (fin t n d) (fin u p g) h k = h
le_trans (fin s m e) nan z h k = absurd h
le_trans (fin s m e) (inf t) nan h k = absurd k
le_trans (fin s m e) (inf t) (inf u) h k = low2 t u h k
le_trans (fin s m e) (inf t) (fin u p g) h k = absurd (clash2 t h k)
le_trans (fin s m e) (fin t n d) nan h k = absurd k
le_trans (fin s m e) (fin t n d) (inf u) h k = k
le_trans (fin s m e) (fin t n d) (fin u p g) h k =
    after s (m * up e * down g) u (p * up g * down e)
    (trans s t u (m * up e) (down e) (n * up d) (down d) (p * up g) (down g) (down_pos e) (down_pos d) (down_pos g)
    (before s (m * up e * down d) t (n * up d * down e) h) (before t (n * up d * down g) u (p * up g * down d) k))

-- ---- the order against a number below 2 ^ 24, of any number: what a bound's test says even where the tested value was rounded
pub val-le-any : (k : ℕ) → k ≤ 149 → (a b : ℤ) → Within 16777215 b → le (val k a) (val k b) ≡ le_z a b
val-le-any k l a b B = bools (le (val k a) (val k b)) (le_z a b) (λ (t : T (le (val k a) (val k b))). go t (le_z a b) (nle_z→ a b)) (val_mono k a b)
  where
    go : T (le (val k a) (val k b)) → (c : Bool) → (T (not c) → more b + less a < more a + less b) → T c
    go t true f = tt
    go t false f =
        let h : more b + less a < more a + less b = f tt in
        let n = b +ℤ pos 1 in
        let up1 : T (le_z n a) = →le_z n a (omega (arith, sum b (pos 1))) in
        let back : T (le (val k n) (val k b)) = le_trans (val k n) (val k a) (val k b) (val_mono k n a up1) t in
        let no : T (le_z n b) = rw (val-le k l n b (omega (arith, sum b (pos 1))) (omega arith)) at back in
        absurd (omega (arith, le_z→ n b no, sum b (pos 1)))

-- ---- of two that are not NaN, one is at most the other
-- a float that is not a NaN
abbrev pub Number : Float → Type 0
Number nan = ⊥
Number (inf s) = Unit {0}
Number (fin s m e) = Unit {0}

pub number : (s : Bool) (y : Float) → Sign s y → Number y
number s nan p = absurd p
number s (inf t) p = tt
number s (fin t m e) p = tt

pub nan-or-number : (x : Float) → (x ≡ nan) ⊎ Number x
nan-or-number nan = inl refl
nan-or-number (inf s) = inr tt
nan-or-number (fin s m e) = inr tt

pub lt-nan : (x : Float) → (lt nan x ≡ false) × (lt x nan ≡ false)
unfolding lt
lt-nan nan = (refl, refl)
lt-nan (inf s) = (refl, refl)
lt-nan (fin s m e) = (refl, refl)

not-below : (s : Bool) (X : ℕ) (t : Bool) (Y : ℕ) → Before s X t Y → below t Y s X ≡ false
not-below false X false Y h = not-lt Y X h
not-below false X true Y h = not-lt 0 (Y + X) (omega (arith, h.0, h.1))
not-below true X false Y h = refl
not-below true X true Y h = not-lt X Y h

below-not : (s : Bool) (X : ℕ) (t : Bool) (Y : ℕ) → below t Y s X ≡ false → Before s X t Y
below-not false X false Y h = nltb→le Y X (is-no (ltb Y X) h)
below-not false X true Y h = let z : Y + X ≤ 0 = nltb→le 0 (Y + X) (is-no (ltb 0 (Y + X)) h) in (omega arith, omega arith)
below-not true X false Y h = tt
below-not true X true Y h = nltb→le X Y (is-no (ltb X Y) h)

pub le_not_lt : (x y : Float) → T (le x y) → lt y x ≡ false
unfolding le lt eq
le_not_lt nan y h = absurd h
le_not_lt (inf s) nan h = absurd h
le_not_lt (inf true) (inf true) h = refl
le_not_lt (inf true) (inf false) h = refl
le_not_lt (inf false) (inf true) h = absurd h
le_not_lt (inf false) (inf false) h = refl
le_not_lt (inf true) (fin t n d) h = refl
le_not_lt (inf false) (fin t n d) h = absurd h
le_not_lt (fin s m e) nan h = absurd h
le_not_lt (fin s m e) (inf true) h = absurd h
le_not_lt (fin s m e) (inf false) h = refl
le_not_lt (fin s m e) (fin t n d) h = not-below s (m * up e * down d) t (n * up d * down e) (before s (m * up e * down d) t (n * up d * down e) h)

pub not-lt-le : (x y : Float) → Number x → Number y → lt y x ≡ false → T (le x y)
unfolding le lt eq
not-lt-le nan y p q h = absurd p
not-lt-le (inf s) nan p q h = absurd q
not-lt-le (inf true) (inf true) p q h = tt
not-lt-le (inf true) (inf false) p q h = tt
not-lt-le (inf false) (inf true) p q h = absurd (true≢false h)
not-lt-le (inf false) (inf false) p q h = tt
not-lt-le (inf true) (fin t n d) p q h = tt
not-lt-le (inf false) (fin t n d) p q h = absurd (true≢false h)
not-lt-le (fin s m e) nan p q h = absurd q
not-lt-le (fin s m e) (inf true) p q h = absurd (true≢false h)
not-lt-le (fin s m e) (inf false) p q h = tt
not-lt-le (fin s m e) (fin t n d) p q h = after s (m * up e * down d) t (n * up d * down e) (below-not s (m * up e * down d) t (n * up d * down e) h)
