-- RULES 3.2 to 3.6: lists of lengths, as the Rust's Vec<f32> holds them.
use Rattle.std.specs.Prelude.{Bool, true, false, cond, ◌&&◌, List, [], ◌∷◌, ℕ, zero, suc, ◌+◌, ◌-◌, ltb, get_or, set, length, take, Float}
use Rattle.std.specs.Float.{nan, binary32}
use Rattle.std.specs.Float.Ieee.{add, eq}
use Rattle.emath.specs.Rectangles.{zero_f, max_f}
use Rattle.emath.specs.Refusals.{lesser, extent_fault}

-- RULES 3.4: get(i), or another value where there is no such entry (the NaN is never read)
unfoldable pub entry : List Float → ℕ → Float → Float
entry vs i other = cond (ltb i (length vs)) (get_or vs i nan) other

-- RULES 3.3: an array with zeros at the n places from a
unfoldable pub cleared : List Float → ℕ → ℕ → List Float
cleared xs a zero = xs
cleared xs a (suc n) = set (cleared xs a n) (a + n) zero_f

-- RULES 3.3: the first n of an array, made at least i + 1 by zeros, with the entry at i raised to w
unfoldable pub raised : List Float → ℕ → ℕ → Float → List Float
raised xs n i w = set (cleared xs n (i - n)) i (max_f (entry (take n xs) i zero_f) w)

-- RULES 3.5: iter().sum(), from the first on
unfoldable pub total_from : Float → List Float → Float
total_from s [] = s
total_from s (v ∷ vs) = total_from (add binary32 s v) vs

abbrev pub total : List Float → Float
total vs = total_from zero_f vs

-- RULES 3.6, ==: as many, and each equal to its counterpart, a zero's sign aside
unfoldable pub same_entries : List Float → List Float → Bool
same_entries [] [] = true
same_entries [] (w ∷ ws) = false
same_entries (v ∷ vs) [] = false
same_entries (v ∷ vs) (w ∷ ws) = eq v w && same_entries vs ws

-- RULES 8.5: the least number that an entry has: 4, 5, or 6 where it is below zero
unfoldable pub entries_fault : List Float → ℕ
entries_fault [] = 0
entries_fault (v ∷ vs) = lesser (extent_fault v) (entries_fault vs)

-- RULES 3.2: n zeros
unfoldable pub zeros : ℕ → List Float
zeros zero = []
zeros (suc n) = zero_f ∷ zeros n
