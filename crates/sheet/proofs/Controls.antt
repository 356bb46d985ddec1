-- The W of a sheet of controls have the sizes that its text says, one by one (RULES 6.26). Assumes nothing.
use Prim.Native.Nat.{ℕ, zero, suc, ◌+◌, ◌<◌}
use mathlib.Core.Path.{◌≡◌, sym, ◌∙◌}
use mathlib.Core.Bool.{Bool, true, cond, true≢false}
use mathlib.Core.List.{List, [], ◌∷◌}
use native.Mathlib.Omega.{arith}
use lib.ListN.{drop}
use Rattle.emath.specs.Steps.{tick}
use Rattle.records.specs.Records.{rest}
use Rattle.records.specs.Headings.{heading_in}
use Rattle.records.specs.Sheets.{records_from, steps_left, records, wrong_from}
use Rattle.records.specs.Controls.{only_controls, Size, size_of, sizes_from, sizes_in, Sized}
use Rattle.records.specs.declared.SizeUnit.{SizeUnit}
use Rattle.records.specs.Records.{Record}
use Rattle.records.proofs.Controls.{Read, read}
use Rattle.sheet.specs.Texts.{steps_of, sheet_in}

-- one record more, in front of steps that are so sized
abbrev with_size : Bool → Size → List Size → List Size
with_size w z sizes = cond w (z ∷ sizes) sizes

one_more : (u : SizeUnit) (s : List ℕ) (n : ℕ) {w : Bool} {r : Record} (rs : List Record) (sizes : List Size) → Read u s w r → 0 < n → wrong_from n (r ∷ rs) ≡ 0 → only_controls (steps_of (r ∷ rs)) ≡ true
    → (wrong_from (n + 1) rs ≡ 0 → only_controls (steps_of rs) ≡ true → Sized tick u sizes (steps_of rs)) → Sized tick u (with_size w (size_of s) sizes) (steps_of (r ∷ rs))
unfolding wrong_from steps_of
one_more u s n rs sizes (Read.widget w v) N h o later = Sized.control w v (later h (unfold only_controls in o))
one_more u s n rs sizes Read.row_end N h o later = Sized.row_end (later h (unfold only_controls in o))
one_more u s n rs sizes (Read.other {st = st} breaks) N h o later = absurd (true≢false (sym o ∙ breaks (steps_of rs)))
one_more u s n rs sizes Read.wrong N h o later = absurd (omega (arith, h, N))

sized : (u : SizeUnit) (left n : ℕ) (s : List ℕ) → 0 < n → wrong_from n (records_from u left s) ≡ 0 → only_controls (steps_of (records_from u left s)) ≡ true → Sized tick u (sizes_from left s) (steps_of (records_from u left s))
unfolding records_from sizes_from steps_of
sized u zero n s N h o = Sized.none
sized u (suc left) n [] N h o = Sized.none
sized u (suc left) n (b ∷ s) N h o =
    one_more u (b ∷ s) n (records_from u left (rest (b ∷ s))) (sizes_from left (rest (b ∷ s))) (read u (b ∷ s)) N h o (sized u left (n + 1) (rest (b ∷ s)) (omega arith))

-- of a text in which no record is malformed
pub text-sized : (text : List ℕ) → wrong_from ((heading_in text).records + 1) (records text) ≡ 0 → only_controls (sheet_in text).steps ≡ true → Sized tick (heading_in text).unit (sizes_in text) (sheet_in text).steps
text-sized text h o = sized (heading_in text).unit (steps_left text) ((heading_in text).records + 1) (drop (heading_in text).next text) (omega arith) h o
