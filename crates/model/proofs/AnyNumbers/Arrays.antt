-- Arrays with counts and the lists of what is counted: reading an entry is reading the list's, and an array made long enough by zeros and
-- raised at a place is the list raised there. Assumes nothing.
use mathlib.Core.Path.{◌≡◌, sym, ◌∙◌, ap}
use mathlib.Core.Bool.{Bool, true, false, not, cond}
use mathlib.Core.List.{List, [], ◌∷◌}
use Prim.Native.Nat.{ℕ, zero, suc, ◌+◌, ◌-◌, ◌≤◌, ◌<◌, max}
use native.Mathlib.Omega.{arith}
use native.Mathlib.Nat.{zero-add, suc-add}
use lib.Dec.{T, ltb, ltb→lt, nltb→le}
use lib.ListN.{length, get_or, take, set, get_or-eq_default}
use Rattle.model.proofs.WholeSteps.Lists.{any-default}
use Rattle.model.proofs.AnyNumbers.Engine.{Ops, raise}

-- get(i), or another value where there is no such entry; `odd` is never read
pub entry-is : {F : Type 0} (vs : List F) (i : ℕ) (odd other : F) → cond (ltb i (length vs)) (get_or vs i odd) other ≡ get_or vs i other
entry-is vs i odd other = go (ltb i (length vs)) (ltb→lt i (length vs)) (nltb→le i (length vs))
  where
    go : (b : Bool) → (T b → i < length vs) → (T (not b) → length vs ≤ i) → cond b (get_or vs i odd) other ≡ get_or vs i other
    go true f g = any-default vs i odd other (f tt)
    go false f g = sym (get_or-eq_default vs other (g tt))

-- `cleared xs a n` is any function that gives xs with zeros at the n places from a, the last written last.
module _ {F : Type 0} (o : Ops F) (cleared : List F → ℕ → ℕ → List F) (at_none : (xs : List F) (a : ℕ) → cleared xs a 0 ≡ xs)
    (at_more : (xs : List F) (a n : ℕ) → cleared xs a (suc n) ≡ set (cleared xs a n) (a + n) o.none) where
  cleared-in : (x : F) (xs : List F) (a n : ℕ) → cleared (x ∷ xs) (suc a) n ≡ x ∷ cleared xs a n
  cleared-in x xs a zero = rw (at_none (x ∷ xs) (suc a), at_none xs a)
  cleared-in x xs a (suc n) = rw (at_more (x ∷ xs) (suc a) n, at_more xs a n, cleared-in x xs a n, suc-add a n)

  cleared-first : (x : F) (xs : List F) (n : ℕ) → cleared (x ∷ xs) 0 (suc n) ≡ o.none ∷ cleared xs 0 n
  cleared-first x xs zero = rw (at_more (x ∷ xs) 0 0, at_none (x ∷ xs) 0, at_none xs 0)
  cleared-first x xs (suc n) = at_more (x ∷ xs) 0 (suc n) ∙ ap (λ (z : List F). set z (0 + suc n) o.none) (cleared-first x xs n) ∙ rw (zero-add (suc n), at_more xs 0 n, zero-add n)

  from_nothing : (xs : List F) (i : ℕ) (w : F) → i < length xs → take (suc i) (set (cleared xs 0 i) i (o.high o.none w)) ≡ raise o [] i w
  unfolding raise
  from_nothing [] i w p = absurd (omega arith)
  from_nothing (x ∷ xs) zero w p = rw (at_none (x ∷ xs) 0)
  from_nothing (x ∷ xs) (suc i) w p = rw (cleared-first x xs i) (ap (λ (z : List F). o.none ∷ z) (from_nothing xs i w (omega arith)))

  pub array-raised : (xs : List F) (n i : ℕ) (w : F) → i < length xs → n ≤ length xs
      → take (max n (suc i)) (set (cleared xs n (i - n)) i (o.high (get_or (take n xs) i o.none) w)) ≡ raise o (take n xs) i w
  unfolding raise
  array-raised xs zero i w p q =
      let e : max 0 (suc i) ≡ suc i = omega arith in
      let f : i - 0 ≡ i = omega arith in
      rw (e, f) (from_nothing xs i w p)
  array-raised [] (suc n) i w p q = absurd (omega arith)
  array-raised (x ∷ xs) (suc n) zero w p q =
      let e : max (suc n) 1 ≡ suc n = omega arith in
      let f : 0 - suc n ≡ 0 = omega arith in
      rw (e, f, at_none (x ∷ xs) (suc n))
  array-raised (x ∷ xs) (suc n) (suc i) w p q =
      let e : max (suc n) (suc (suc i)) ≡ suc (max n (suc i)) = omega arith in
      let f : suc i - suc n ≡ i - n = omega arith in
      rw (e, f, cleared-in x xs n (i - n)) (ap (λ (z : List F). x ∷ z) (array-raised xs n i w (omega arith) (omega arith)))
