-- min and max as RULES 1.3 words them, for every two floats: of two that are equal the first; the other one where one is NaN; else the
-- lesser or the greater. It is always one of the two. Assumes nothing.
use Rattle.std.proofs.Common.{◌≡◌, ℕ, ◌+◌, ◌*◌, Bool, true, false, cond, not, T, eqb, ◌⊎◌, sym, refl, subst, inl, inr, arith, eqb→eq}
use lib.Dec.{eqb_refl}
use lib.Ieee.{le, Float, nan, inf, fin, lt, eq, ne, below, level, up, down}
use lib.Ieee.Fits.{and_l, and_r}
use lib.Ieee.Compare.{differs_from_itself, nan_differs}
use Rattle.emath.specs.Rectangles.{min_f, max_f}
use Rattle.emath.proofs.Tests.{or_l, not-lt, T_of, T_true}
use Rattle.emath.proofs.OrderLaws.{Number, lt-nan, not-lt-le}

one_of : (t u : Bool) (a b : Float) → (cond t b (cond u b a) ≡ a) ⊎ (cond t b (cond u b a) ≡ b)
one_of true u a b = inr refl
one_of false true a b = inr refl
one_of false false a b = inl refl

pub min-one-of : (a b : Float) → (min_f a b ≡ a) ⊎ (min_f a b ≡ b)
unfolding min_f
min-one-of a b = one_of (lt b a) (ne a a) a b

pub max-one-of : (a b : Float) → (max_f a b ≡ a) ⊎ (max_f a b ≡ b)
unfolding max_f
max-one-of a b = one_of (lt a b) (ne a a) a b

-- so what is so of both numbers is so of it
both : (P : Float → Type 0) {z x y : Float} → P x → P y → (z ≡ x) ⊎ (z ≡ y) → P z
both P p q (inl e) = subst P (sym e) p
both P p q (inr e) = subst P (sym e) q

pub min-both : (P : Float → Type 0) (a b : Float) → P a → P b → P (min_f a b)
min-both P a b p q = both P p q (min-one-of a b)

pub max-both : (P : Float → Type 0) (a b : Float) → P a → P b → P (max_f a b)
max-both P a b p q = both P p q (max-one-of a b)

-- ---- a NaN gives the other
-- what is unlike itself is a NaN
kept : (a : Float) → cond (ne a a) nan a ≡ a
kept a = go (ne a a) (differs_from_itself a)
  where
    go : (t : Bool) → (T t → a ≡ nan) → cond t nan a ≡ a
    go true h = sym (h tt)
    go false h = refl

pub min-nan-first : (b : Float) → min_f nan b ≡ b
unfolding min_f
min-nan-first b = rw ((lt-nan b).1, nan_differs)

pub max-nan-first : (b : Float) → max_f nan b ≡ b
unfolding max_f
max-nan-first b = rw ((lt-nan b).0, nan_differs)

pub min-nan-second : (a : Float) → min_f a nan ≡ a
unfolding min_f lt
min-nan-second a = kept a

pub max-nan-second : (a : Float) → max_f a nan ≡ a
unfolding max_f
max-nan-second a = rw (lt-nan a).1 (kept a)

-- ---- the lesser, the greater
pub min-less : (a b : Float) → T (lt b a) → min_f a b ≡ b
unfolding min_f
min-less a b h = rw (T_true (lt b a) h)

pub max-greater : (a b : Float) → T (lt a b) → max_f a b ≡ b
unfolding max_f
max-greater a b h = rw (T_true (lt a b) h)

-- ---- equal ones: neither is below, so the first
flat : (s : Bool) (X : ℕ) (t : Bool) (Y : ℕ) → T (level s X t Y) → (below s X t Y ≡ false) × (below t Y s X ≡ false)
flat false X false Y h = let e : X ≡ Y = eqb→eq X Y (and_l (eqb X Y) true h) in (not-lt X Y (omega arith), not-lt Y X (omega arith))
flat false X true Y h = let e : X ≡ Y = eqb→eq X Y (and_l (eqb X Y) (eqb X 0) h) in let z : X ≡ 0 = eqb→eq X 0 (and_r (eqb X Y) (eqb X 0) h) in (refl, not-lt 0 (Y + X) (omega arith))
flat true X false Y h = let e : X ≡ Y = eqb→eq X Y (and_l (eqb X Y) (eqb X 0) h) in let z : X ≡ 0 = eqb→eq X 0 (and_r (eqb X Y) (eqb X 0) h) in (not-lt 0 (X + Y) (omega arith), refl)
flat true X true Y h = let e : X ≡ Y = eqb→eq X Y (and_l (eqb X Y) true h) in (not-lt Y X (omega arith), not-lt X Y (omega arith))

equal-flat : (a b : Float) → T (eq a b) → (lt a b ≡ false) × (lt b a ≡ false) × (ne a a ≡ false)
unfolding eq lt ne
equal-flat nan b h = absurd h
equal-flat (inf s) nan h = absurd h
equal-flat (inf true) (inf true) h = (refl, refl, refl)
equal-flat (inf true) (inf false) h = absurd h
equal-flat (inf false) (inf true) h = absurd h
equal-flat (inf false) (inf false) h = (refl, refl, refl)
equal-flat (inf s) (fin t n d) h = absurd h
equal-flat (fin s m e) nan h = absurd h
equal-flat (fin s m e) (inf t) h = absurd h
equal-flat (fin s m e) (fin t n d) h =
    let f = flat s (m * up e * down d) t (n * up d * down e) h in
    (f.0, f.1, self s (m * up e * down e))
  where
    self : (s : Bool) (X : ℕ) → not (level s X s X) ≡ false
    self true X = rw (T_true (eqb X X) (eqb_refl X))
    self false X = rw (T_true (eqb X X) (eqb_refl X))

pub min-equal : (a b : Float) → T (eq a b) → min_f a b ≡ a
unfolding min_f
min-equal a b h = let f = equal-flat a b h in rw (f.1, f.2)

pub max-equal : (a b : Float) → T (eq a b) → max_f a b ≡ a
unfolding max_f
max-equal a b h = let f = equal-flat a b h in rw (f.0, f.2)

-- ---- the greater of two is below neither, unless that is NaN
lt-self : (a : Float) → lt a a ≡ false
unfolding lt
lt-self nan = refl
lt-self (inf true) = refl
lt-self (inf false) = refl
lt-self (fin true m e) = not-lt (m * up e * down e) (m * up e * down e) (omega arith)
lt-self (fin false m e) = not-lt (m * up e * down e) (m * up e * down e) (omega arith)

pub number-kept : (a : Float) → Number a → ne a a ≡ false
number-kept a p = go (ne a a) (differs_from_itself a)
  where
    go : (t : Bool) → (T t → a ≡ nan) → t ≡ false
    go true f = absurd (subst Number (f tt) p)
    go false f = refl

lt-le : (a b : Float) → T (lt a b) → T (le a b)
unfolding le
lt-le a b h = or_l (lt a b) (eq a b) h

pub max-first-le : (a b : Float) → Number a → T (le a (max_f a b))
max-first-le a b p = go (lt a b) refl
  where
    go : (t : Bool) → lt a b ≡ t → T (le a (max_f a b))
    go true e = unfold max_f in rw e (lt-le a b (T_of e))
    go false e = unfold max_f in rw (e, number-kept a p) (not-lt-le a a p p (lt-self a))

pub max-second-le : (a b : Float) → Number a → Number b → T (le b (max_f a b))
max-second-le a b p q = go (lt a b) refl
  where
    go : (t : Bool) → lt a b ≡ t → T (le b (max_f a b))
    go true e = unfold max_f in rw e (not-lt-le b b q q (lt-self b))
    go false e = unfold max_f in rw (e, number-kept a p) (not-lt-le b a q p e)
