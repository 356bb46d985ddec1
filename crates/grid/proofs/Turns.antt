-- One turn of each loop over a list of lengths, and what a fill with zeros leaves. Assumes nothing.
use Rattle.std.proofs.Common.{◌≡◌, refl, sym, ap, ◌∙◌, Bool, true, false, ◌&&◌, List, [], ◌∷◌, ℕ, zero, suc, ◌+◌, ◌≤◌, ◌<◌, length, drop, get_or, set, replicate, drop_of_length-le, length-set, eqb-true, arith}
use Rattle.std.specs.Prelude.{Float, eqb}
use Rattle.std.specs.List.{list_all}
use Rattle.std.specs.Float.{nan, binary32}
use Rattle.std.specs.Float.Ieee.{add, eq}
use Rattle.std.proofs.Math.Seq.{paste}
use Rattle.std.proofs.lemmas.List.{at_drop_more, drop_more}
use Rattle.std.proofs.lemmas.List.Edits.{paste_none, fill_from_more}
use Rattle.emath.specs.Rectangles.{zero_f}
use Rattle.emath.specs.Refusals.{lesser, extent_fault}
use Rattle.emath.proofs.Tests.{both}
use Rattle.emath.proofs.Refusals.{zero-lesser, lesser-zero, lesser-assoc}
use Rattle.grid.specs.Entries.{cleared, total_from, same_entries, entries_fault}

-- ---- the entries from i on
pub total-turn : (vs : List Float) (i : ℕ) (s : Float) → i < length vs → total_from (add binary32 s (get_or vs i nan)) (drop (i + 1) vs) ≡ total_from s (drop i vs)
unfolding total_from
total-turn vs i s h = sym (at_drop_more (total_from s) vs i nan h)

pub total-end : (vs : List Float) (i : ℕ) (s : Float) → length vs ≤ i → s ≡ total_from s (drop i vs)
unfolding total_from
total-end vs i s h = rw (drop_of_length-le vs {i = i} h)

pub fault-turn : (vs : List Float) (i f : ℕ) → i < length vs → lesser (lesser f (extent_fault (get_or vs i nan))) (entries_fault (drop (i + 1) vs)) ≡ lesser f (entries_fault (drop i vs))
unfolding entries_fault
fault-turn vs i f h = rw (at_drop_more entries_fault vs i nan h) (sym (lesser-assoc f (extent_fault (get_or vs i nan)) (entries_fault (drop (i + 1) vs))))

pub sound-end : (vs : List Float) → list_all (λ x. eqb (extent_fault x) 0) vs ≡ true → entries_fault vs ≡ 0
unfolding entries_fault
sound-end [] h = refl
sound-end (v ∷ vs) h = let a = both _ _ h in rw (eqb-true (extent_fault v) 0 a.0, zero-lesser) (sound-end vs a.1)

pub fault-end : (vs : List Float) (i f : ℕ) → length vs ≤ i → f ≡ lesser f (entries_fault (drop i vs))
unfolding entries_fault
fault-end vs i f h = rw (drop_of_length-le vs {i = i} h) (sym (lesser-zero f))

-- ---- pair by pair
pub same-turn : (vs ws : List Float) (i : ℕ) (b : Bool) (v w : Float) → i < length vs → i < length ws → v ≡ get_or vs i nan → w ≡ get_or ws i nan
    → ((b && eq v w) && same_entries (drop (i + 1) vs) (drop (i + 1) ws)) ≡ (b && same_entries (drop i vs) (drop i ws))
unfolding same_entries
same-turn vs ws i b v w h k e f = rw (drop_more vs i nan h, drop_more ws i nan k, e, f) (go b (eq (get_or vs i nan) (get_or ws i nan)) (same_entries (drop (i + 1) vs) (drop (i + 1) ws)))
  where
    go : (b t u : Bool) → ((b && t) && u) ≡ (b && (t && u))
    go true t u = refl
    go false t u = refl

pub same-end : (vs ws : List Float) (i : ℕ) (b : Bool) → length vs ≤ i → length ws ≤ i → b ≡ (b && same_entries (drop i vs) (drop i ws))
unfolding same_entries
same-end vs ws i b h k = rw (drop_of_length-le vs {i = i} h, drop_of_length-le ws {i = i} k) (go b)
  where
    go : (b : Bool) → b ≡ (b && true)
    go true = refl
    go false = refl

-- lists of different lengths differ
pub not-same : (vs ws : List Float) → (length vs ≡ length ws → ⊥) → false ≡ same_entries vs ws
unfolding same_entries
not-same [] [] h = absurd (h refl)
not-same [] (w ∷ ws) h = refl
not-same (v ∷ vs) [] h = refl
not-same (v ∷ vs) (w ∷ ws) h = rw (← (not-same vs ws (λ (e : length vs ≡ length ws). h (ap suc e)))) (none (eq v w))
  where
    none : (b : Bool) → false ≡ b && false
    none true = refl
    none false = refl

-- ---- zeros
pub cleared-paste : (xs : List Float) (a k : ℕ) → a + k ≤ length xs → paste xs a (replicate k zero_f) k ≡ cleared xs a k
unfolding cleared
cleared-paste xs a zero h = sym (paste_none xs a [])
cleared-paste xs a (suc k) h =
    let e : suc k ≡ k + 1 = omega arith in
    ap (λ (n : ℕ). paste xs a (replicate n zero_f) n) e ∙ sym (fill_from_more xs a k zero_f (omega arith)) ∙ ap (λ (ys : List Float). set ys (a + k) zero_f) (cleared-paste xs a k (omega arith))

pub length-cleared : (xs : List Float) (a n : ℕ) → length (cleared xs a n) ≡ length xs
unfolding cleared
length-cleared xs a zero = refl
length-cleared xs a (suc n) = simp length-set (length-cleared xs a n)
