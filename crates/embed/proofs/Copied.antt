-- A list that is printed into an array and then copied whole, where there is room. Assumes nothing.
use Prim.Native.Nat.{ℕ, ◌≤◌}
use mathlib.Core.Path.{◌≡◌, refl, ap, ◌∙◌}
use mathlib.Core.Bool.{cond}
use mathlib.Core.List.{List, ◌++◌}
use native.Mathlib.Nat.{zero-add}
use native.Mathlib.Omega.{arith}
use lib.Dec.{leb}
use lib.ListN.{length, take, drop}
use lib.Seq.{sets, sets-eq, take_at, length-take-le}
use borrow.Author.Tests.{le-leb}
use Rattle.embed.specs.Calls.{whole}

at_front : (l room : List ℕ) → length l ≤ length room → sets room 0 l ≡ l ++ drop (length l) room
at_front l room h = sets-eq l room 0 (omega arith) ∙ ap (λ (k : ℕ). l ++ drop k room) (zero-add (length l))

-- the first n bytes, over the slice's start
pub copied : (n : ℕ) (from out exit : List ℕ) → n ≤ length from → n ≤ length out → exit ≡ take n from ++ drop n out
    → exit ≡ cond (leb n (length out)) (sets out 0 (take n from)) out
copied n from out exit f o e = rw (le-leb n (length out) o, at_front (take n from) out (rw (length-take-le n from f) o), length-take-le n from f, e)

-- a list that stands in an array
pub copied-list : (n : ℕ) (l room list out exit : List ℕ) → ◌≡◌ {A = ℕ × List ℕ} (n, list) (length l, sets room 0 l) → length l ≤ length room
    → exit ≡ cond (leb n (length out)) (sets out 0 (take n list)) out → ◌≡◌ {A = ℕ × List ℕ} (n, exit) (whole out l)
unfolding whole
copied-list n l room list out exit e h f =
    let a : n ≡ length l = ap (λ (x : ℕ × List ℕ). x.0) e in
    let b : list ≡ sets room 0 l = ap (λ (x : ℕ × List ℕ). x.1) e in
    let d : take (length l) (sets room 0 l) ≡ l = ap (λ (x : List ℕ). take (length l) x) (at_front l room h) ∙ take_at l (drop (length l) room) (length l) refl in
    rw (f, a, b, d)
