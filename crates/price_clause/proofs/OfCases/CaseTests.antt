-- The test of the table of cases (RULES 9) is an equation: where it is passed, what is found is in every case what it has to be. Assumes
-- nothing.
use Prim.Native.Nat.{ℕ}
use mathlib.Core.Path.{◌≡◌, refl, ap}
use mathlib.Core.Bool.{Bool, true, false, ◌&&◌}
use mathlib.Core.List.{List, [], ◌∷◌, map}
use native.Mathlib.Omega.{arith}
use borrow.Author.Tests.{eqb-true}
use lib.IntN.{ℤ, pos, negsuc}
use Rattle.price_clause.specs.Cases.{Case, same_z, same_all, all_hold}

both_true : (a b : Bool) → (a && b) ≡ true → (a ≡ true) × (b ≡ true)
both_true true b h = (refl, h)
both_true false b h = let o : ◌≡◌ {A = ℕ} 0 1 = cc in absurd (omega arith)

same_number : (x y : ℤ) → same_z x y ≡ true → x ≡ y
same_number (pos a) (pos b) h = ap pos (eqb-true a b h)
same_number (pos a) (negsuc b) h = let o : ◌≡◌ {A = ℕ} 0 1 = cc in absurd (omega arith)
same_number (negsuc a) (pos b) h = let o : ◌≡◌ {A = ℕ} 0 1 = cc in absurd (omega arith)
same_number (negsuc a) (negsuc b) h = ap negsuc (eqb-true a b h)

same_numbers : (xs ys : List ℤ) → same_all xs ys ≡ true → xs ≡ ys
unfolding same_all
same_numbers [] [] h = refl
same_numbers [] (y ∷ ys) h = let o : ◌≡◌ {A = ℕ} 0 1 = cc in absurd (omega arith)
same_numbers (x ∷ xs) [] h = let o : ◌≡◌ {A = ℕ} 0 1 = cc in absurd (omega arith)
same_numbers (x ∷ xs) (y ∷ ys) h =
    let b = both_true (same_z x y) (same_all xs ys) h in
    let e : x ≡ y = same_number x y b.0 in
    let t : xs ≡ ys = same_numbers xs ys b.1 in
    rw (e, t)

pub found-as-expected : (cs : List Case) → all_hold cs ≡ true → map (λ (c : Case). c.found) cs ≡ map (λ (c : Case). c.expected) cs
unfolding all_hold
found-as-expected [] h = refl
found-as-expected (c ∷ cs) h =
    let b = both_true (same_all c.found c.expected) (all_hold cs) h in
    let e : c.found ≡ c.expected = same_numbers c.found c.expected b.0 in
    rw (e, found-as-expected cs b.1)
