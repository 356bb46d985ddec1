-- RULES 7.2: a line of the printed list, in the columns of a sheet.
use Rattle.std.specs.Prelude.{ℕ, ◌+◌, ◌*◌, List, [], ◌∷◌, ◌++◌, Bool, true, false, cond, ◌&&◌, ℤ, leb, length}
use Rattle.std.proofs.lemmas.List.Edits.{sets}
use Rattle.text.specs.Letters as letters
use Rattle.text.specs.Fields.{text, has_text}

-- RULES 7.2: each number's text, one after the other; and whether each has one
unfoldable pub texts : List ℤ → List ℕ
texts [] = []
texts (z ∷ zs) = text z ++ texts zs

unfoldable pub have_texts : List ℤ → Bool
have_texts [] = true
have_texts (z ∷ zs) = cond (has_text z) (have_texts zs) false

-- RULES 7.2: a letter, its numbers, one LF
unfoldable pub line : ℕ → List ℤ → List ℕ
line letter zs = letter ∷ (texts zs ++ (letters.LF ∷ []))

-- RULES 7.2: whether it was written, and what the slice then holds: only the line's places change, and none where they are not all there or
-- a number has no text
unfoldable pub line_at : List ℕ → ℕ → ℕ → List ℤ → Bool × List ℕ
line_at out at letter zs = cond (leb (at + (2 + 8 * length zs)) (length out) && have_texts zs) (true, sets out at (line letter zs)) (false, out)
