-- The row heights of any pass over any records of a grid sheet: whatever moves the cursor, if each control comes out between its height and
-- its frame's, a second pass remembers the heights of the first. Assumes nothing.
use mathlib.Core.Path.{◌≡◌, refl, sym, ◌∙◌, ap}
use mathlib.Core.List.Forall₂
use mathlib.Core.List.{List, [], ◌∷◌}
use Prim.Native.Nat.{ℕ, suc, ◌≤◌, ◌<◌, max}
use native.Mathlib.Omega.{arith}
use lib.ListN.{length, get_or}
use Rattle.model.proofs.WholeSteps.Model.{Step, W, E, lift}
use Rattle.model.proofs.WholeSteps.Lists.{Le, Below, Le-lift, Below-refl, Below-trans, Below-lift, Below-under, Below-length, Below-get_or, squeeze, reaches, at_least, before, any-default}

-- the heights that records settle at, with the minimum m, from the heights k, met in row r
unfoldable pub rows_from : ℕ → ℕ → List ℕ → List Step → List ℕ
rows_from m r k [] = k
rows_from m r k (W w h ∷ l) = rows_from m r (lift k r (max h m)) l
rows_from m r k (E ∷ l) = rows_from m (suc r) k l

rows_above : (m r : ℕ) (k : List ℕ) (l : List Step) → Below k (rows_from m r k l)
unfolding rows_from
rows_above m r k [] = Below-refl k
rows_above m r k (W w h ∷ l) = Below-trans (Below-lift k r (max h m)) (rows_above m r (lift k r (max h m)) l)
rows_above m r k (E ∷ l) = rows_above m (suc r) k l

-- a row that is ended keeps its height
pub rows-ended : (m r : ℕ) (k : List ℕ) (l : List Step) (i d : ℕ) → i < r → i < length k → get_or (rows_from m r k l) i d ≡ get_or k i d
unfolding rows_from
rows-ended m r k [] i d h b = refl
rows-ended m r k (W w v ∷ l) i d h b =
    rows-ended m r (lift k r (max v m)) l i d h (omega (arith, Below-length (Below-lift k r (max v m)))) ∙ before k i r (max v m) d b h
rows-ended m r k (E ∷ l) i d h b = rows-ended m (suc r) k l i d (omega arith) b

-- Run d given r k l k': with the minimum d and the heights given, the records l take the heights k, met in row r, to k'.
-- v is the height of the control's rounded rectangle. Records other than W and E leave all this as it is, and are not listed.
pub data Run (d : ℕ) (given : List ℕ) : ℕ → List ℕ → List Step → List ℕ → Type 0 where
  done : {r : ℕ} {k : List ℕ} → Run d given r k [] k
  placed : {r w h : ℕ} {k k' : List ℕ} {l : List Step} (v : ℕ) → h ≤ v → v ≤ max h (get_or given r d) → Run d given r (lift k r (max v d)) l k' → Run d given r k (W w h ∷ l) k'
  ended : {r : ℕ} {k k' : List ℕ} {l : List Step} → Run d given (suc r) k l k' → Run d given r k (E ∷ l) k'

-- ---- without memory
pub first-heights : {d r : ℕ} {k k' : List ℕ} {l : List Step} → Run d [] r k l k' → k' ≡ rows_from d r k l
unfolding rows_from
first-heights done = refl
first-heights {d = d} (placed {r = r} {h = h} {k = k} {l = l} v a b t) =
    let e : max v d ≡ max h d = omega arith in
    first-heights t ∙ ap (λ (x : ℕ). rows_from d r (lift k r x) l) e
first-heights (ended t) = first-heights t

-- ---- given the heights that the records settle at: what is met stays between those of the records so far, s, and those given
pub stay-between : (d r : ℕ) {h v : ℕ} {s k given : List ℕ} (l : List Step) → h ≤ v → v ≤ max h (get_or given r d) → Le s k → Below k given → given ≡ rows_from d r (lift s r (max h d)) l
    → Le (lift s r (max h d)) (lift k r (max v d)) × Below (lift k r (max v d)) given
stay-between d r {h} {v} {s} {k} {given} l p q a b e =
    let u : Below (lift s r (max h d)) given = rw e (rows_above d r (lift s r (max h d)) l) in
    let n : r < length given = omega (arith, reaches s r (max h d), Below-length u) in
    let o : max v d ≤ get_or given r 0 = omega (arith, at_least s r (max h d), Below-get_or r u, any-default given r d 0 n) in
    (Le-lift r a (omega arith), Below-under r (max v d) b n o)

again-heights : {d : ℕ} {given : List ℕ} {r : ℕ} {k' : List ℕ} (s : List ℕ) {k : List ℕ} {l : List Step} → Run d given r k l k' → Le s k → Below k given → given ≡ rows_from d r s l → k' ≡ given
unfolding rows_from
again-heights s done a b e = squeeze a (rw e at b) ∙ sym e
again-heights {d = d} s (placed {r = r} {h = h} {l = l} v p q t) a b e = let i = stay-between d r l p q a b e in again-heights (lift s r (max h d)) t i.0 i.1 e
again-heights s (ended t) a b e = again-heights s t a b e

pub heights-again : {d r : ℕ} {given k : List ℕ} {l : List Step} → Run d given r [] l k → given ≡ rows_from d r [] l → k ≡ given
heights-again t e = again-heights [] t Forall₂.nil Below.none e

-- a second pass gives the first's heights again
pub heights-kept : {d r : ℕ} {k k' : List ℕ} {l : List Step} → Run d [] r [] l k → Run d k r [] l k' → k' ≡ k
heights-kept p q = heights-again q (first-heights p)
