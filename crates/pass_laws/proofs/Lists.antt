-- Arrays with counts as lists: what is counted after an entry was raised is the list raised there. Assumes nothing.
use Prim.Native.Nat.{ℕ, suc, ◌+◌, ◌-◌, ◌≤◌, ◌<◌, max}
use mathlib.Core.Path.{◌≡◌, refl, ap, ◌∙◌}
use mathlib.Core.Bool.{Bool, true, false, cond}
use mathlib.Core.List.{List}
use native.Mathlib.Omega.{arith}
use lib.Dec.{ltb}
use borrow.Author.Tests.{ltb-true, ltb-false}
use lib.ListN.{length, take, set, get_or}
use lib.Ieee.{Float, nan}
use Rattle.emath.specs.Rectangles.{zero_f, max_f}
use Rattle.grid.specs.Entries.{entry, cleared, raised}
use Rattle.grid.specs.Memories.{raised_count}
use Rattle.model.proofs.AnyNumbers.Engine.{raise}
use Rattle.model.proofs.InFloats.Floats.{ops}
use Rattle.model.proofs.AnyNumbers.Arrays.{entry-is, array-raised}

pub count-max : (n m : ℕ) → raised_count n m ≡ max n m
unfolding raised_count
count-max n m = go (ltb n m) refl
  where
    go : (b : Bool) → ltb n m ≡ b → cond b m n ≡ max n m
    go true e = omega (arith, ltb-true n m e)
    go false e = omega (arith, ltb-false n m e)

pub entry-get : (vs : List Float) (i : ℕ) (other : Float) → entry vs i other ≡ get_or vs i other
unfolding entry
entry-get vs i other = entry-is vs i nan other

no-zeros : (xs : List Float) (a : ℕ) → cleared xs a 0 ≡ xs
unfolding cleared
no-zeros xs a = refl

one-zero-more : (xs : List Float) (a n : ℕ) → cleared xs a (suc n) ≡ set (cleared xs a n) (a + n) zero_f
unfolding cleared
one-zero-more xs a n = refl

pub list-raised : (k : ℕ) (xs : List Float) (n i : ℕ) (w : Float) → n ≤ length xs → i < length xs → take (raised_count n (i + 1)) (raised xs n i w) ≡ raise (ops k) (take n xs) i w
unfolding raised
list-raised k xs n i w N I =
    let e : max n (i + 1) ≡ max n (suc i) = omega arith in
    ap (λ (c : ℕ). take c (set (cleared xs n (i - n)) i (max_f (entry (take n xs) i zero_f) w))) (count-max n (i + 1) ∙ e)
    ∙ ap (λ (v : Float). take (max n (suc i)) (set (cleared xs n (i - n)) i (max_f v w))) (entry-get (take n xs) i zero_f)
    ∙ cleared-raised
  where
    cleared-raised : take (max n (suc i)) (set (cleared xs n (i - n)) i (max_f (get_or (take n xs) i zero_f) w)) ≡ raise (ops k) (take n xs) i w
    cleared-raised = array-raised (ops k) cleared no-zeros one-zero-more xs n i w I N
