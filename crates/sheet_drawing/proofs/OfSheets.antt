-- The drawing of a sheet is that of its list; and a longer input than any sheet has the drawing of its first 50,177 bytes. Assumes nothing.
use Prim.Native.Nat.{ℕ, ◌+◌, ◌≤◌}
use mathlib.Core.Path.{◌≡◌, refl, ap, ◌∙◌}
use mathlib.Core.List.{List}
use native.Mathlib.Omega.{arith}
use lib.ListN.{length, take, drop}
use lib.Seq.{sets, sets-eq, take_at, length-sets}
use Rattle.listing.specs.Lists.{list_of, list_in}
use Rattle.listing.proofs.LongTexts.{long-list}
use Rattle.records.specs.Headings.{has_unit}
use Rattle.records.proofs.Prefixes.{long-unit}
use Rattle.drawing.specs.Pictures.{drawing}
use Rattle.sheet_drawing.specs.SheetDrawings.{sheet_drawing, sheet_drawn_in}

-- what was written from the start is what the first bytes are
written-first : (l xs : List ℕ) → length xs ≤ length l → take (length xs) (sets l 0 xs) ≡ xs
written-first l xs h = rw (sets-eq xs l 0 (omega arith)) (take_at xs (drop (0 + length xs) l) (length xs) refl)

pub list_written : (n : ℕ) (o l text : List ℕ) → ◌≡◌ {A = ℕ × List ℕ} (n, o) (list_in l text) → n ≤ length l → take n o ≡ list_of text
list_written n o l text e h =
    let f : n ≡ length (list_of text) = ap (λ (x : ℕ × List ℕ). x.0) e in
    let g : o ≡ sets l 0 (list_of text) = ap (λ (x : ℕ × List ℕ). x.1) e in
    rw (f, g) (written-first l (list_of text) (omega arith))

pub same-room : (n : ℕ) (o out text : List ℕ) → ◌≡◌ {A = ℕ × List ℕ} (n, o) (sheet_drawn_in out text) → length o ≡ length out
same-room n o out text e = ap (λ (x : ℕ × List ℕ). length x.1) e ∙ length-sets out 0 (drawing (has_unit text) (list_of text))

pub long-drawing : (text : List ℕ) → sheet_drawing (take 50177 text) ≡ sheet_drawing text
unfolding sheet_drawing
long-drawing text = rw (long-list text, long-unit text)
