-- Lists of lengths, raised at places: what that leaves as it is, and two orders that it keeps, of lists as long and of lists no longer.
-- Assumes nothing.
use mathlib.Core.Path.{◌≡◌, refl}
use mathlib.Core.List.{List, [], ◌∷◌, Forall₂}
use Prim.Native.Nat.{ℕ, zero, suc, ◌≤◌, ◌<◌, max}
use native.Mathlib.Omega.{arith}
use native.Mathlib.Nat.{le_refl, le_trans, le-max_left, max-le}
use lib.ListN.{length, get_or}
use Rattle.model.proofs.WholeSteps.Model.{lift}

-- pointwise no more, and as long
abbrev pub Le : List ℕ → List ℕ → Type 0
Le = Forall₂ ◌≤◌

-- pointwise no more, and no longer
pub data Below : List ℕ → List ℕ → Type 0 where
  none : {l : List ℕ} → Below [] l
  more : {x y : ℕ} {k l : List ℕ} → x ≤ y → Below k l → Below (x ∷ k) (y ∷ l)

pub max-mono : {a b c d : ℕ} → a ≤ b → c ≤ d → max a c ≤ max b d
max-mono p q = omega arith

at-least-zero : (n : ℕ) → 0 ≤ n
at-least-zero n = omega arith

-- ---- as long

pub Le-get_or : {k l : List ℕ} (i d : ℕ) → Le k l → get_or k i d ≤ get_or l i d
Le-get_or i d Forall₂.nil = le_refl d
Le-get_or zero d (Forall₂.cons h t) = h
Le-get_or (suc i) d (Forall₂.cons h t) = Le-get_or i d t

pub Le-lift : {k l : List ℕ} (i : ℕ) {v w : ℕ} → Le k l → v ≤ w → Le (lift k i v) (lift l i w)
unfolding lift
Le-lift zero Forall₂.nil v = Forall₂.cons v Forall₂.nil
Le-lift (suc i) Forall₂.nil v = Forall₂.cons (le_refl 0) (Le-lift i Forall₂.nil v)
Le-lift zero (Forall₂.cons h t) v = Forall₂.cons (max-mono h v) t
Le-lift (suc i) (Forall₂.cons h t) v = Forall₂.cons h (Le-lift i t v)

-- ---- no longer

pub Below-refl : (l : List ℕ) → Below l l
Below-refl [] = none
Below-refl (x ∷ l) = more (le_refl x) (Below-refl l)

pub Below-trans : {j k l : List ℕ} → Below j k → Below k l → Below j l
Below-trans none q = none
Below-trans (more h p) (more h' q) = more (le_trans h h') (Below-trans p q)

pub Below-lift : (l : List ℕ) (i v : ℕ) → Below l (lift l i v)
unfolding lift
Below-lift [] i v = none
Below-lift (x ∷ l) zero v = more (le-max_left x v) (Below-refl l)
Below-lift (x ∷ l) (suc i) v = more (le_refl x) (Below-lift l i v)

under_none : (r : List ℕ) (i v : ℕ) → i < length r → v ≤ get_or r i 0 → Below (lift [] i v) r
unfolding lift
under_none [] i v b h = absurd (omega arith)
under_none (y ∷ r) zero v b h = more h none
under_none (y ∷ r) (suc i) v b h = more (at-least-zero y) (under_none r i v (omega arith) h)

pub Below-under : {l r : List ℕ} (i v : ℕ) → Below l r → i < length r → v ≤ get_or r i 0 → Below (lift l i v) r
unfolding lift
Below-under {r = r} i v none b h = under_none r i v b h
Below-under zero v (more g p) b h = more (max-le g h) p
Below-under (suc i) v (more g p) b h = more g (Below-under i v p (omega arith) h)

pub Below-length : {k l : List ℕ} → Below k l → length k ≤ length l
Below-length none = omega arith
Below-length (more h p) = omega (arith, Below-length p)

pub Below-get_or : {k l : List ℕ} (i : ℕ) → Below k l → get_or k i 0 ≤ get_or l i 0
Below-get_or i none = omega arith
Below-get_or zero (more h p) = h
Below-get_or (suc i) (more h p) = Below-get_or i p

pub squeeze : {k l : List ℕ} → Le k l → Below l k → l ≡ k
squeeze Forall₂.nil none = refl
squeeze (Forall₂.cons h t) (more {x = x} {y = y} g p) = (let e : x ≡ y = omega arith in cc (squeeze t p))

-- ---- the place itself, and those before it

pub reaches : (l : List ℕ) (i v : ℕ) → i < length (lift l i v)
unfolding lift
reaches [] zero v = omega arith
reaches [] (suc i) v = omega (arith, reaches [] i v)
reaches (x ∷ l) zero v = omega arith
reaches (x ∷ l) (suc i) v = omega (arith, reaches l i v)

pub at_least : (l : List ℕ) (i v : ℕ) → v ≤ get_or (lift l i v) i 0
unfolding lift
at_least [] zero v = omega arith
at_least [] (suc i) v = at_least [] i v
at_least (x ∷ l) zero v = omega arith
at_least (x ∷ l) (suc i) v = at_least l i v

pub before : (l : List ℕ) (i j v d : ℕ) → i < length l → i < j → get_or (lift l j v) i d ≡ get_or l i d
unfolding lift
before [] i j v d b h = absurd (omega arith)
before (x ∷ l) i zero v d b h = absurd (omega arith)
before (x ∷ l) zero (suc j) v d b h = refl
before (x ∷ l) (suc i) (suc j) v d b h = before l i j v d (omega arith) (omega arith)

pub any-default : {F : Type 0} (l : List F) (i : ℕ) (d e : F) → i < length l → get_or l i d ≡ get_or l i e
any-default [] i d e b = absurd (omega arith)
any-default (x ∷ l) zero d e b = refl
any-default (x ∷ l) (suc i) d e b = any-default l i d e (omega arith)

-- two lists that agree at a place wherever the second reaches, and one between them
pub between : {s r m : List ℕ} (i d : ℕ) → Le s r → Below r m → (i < length s → get_or m i d ≡ get_or s i d) → get_or r i d ≡ get_or s i d
between i d Forall₂.nil none e = refl
between zero d (Forall₂.cons h t) (more g p) e = omega (arith, e (omega arith))
between (suc i) d (Forall₂.cons h t) (more g p) e = between i d t p (λ b. e (omega arith))
