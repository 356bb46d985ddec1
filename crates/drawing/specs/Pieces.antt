-- RULES 7.10: a drawing is text, written piece by piece: a byte, or a number in its columns.
use Rattle.std.specs.Prelude.{ℕ, ◌+◌, ◌*◌, ◌%◌, min, cond, List, [], ◌∷◌, ◌++◌, leb, eqb, ℤ, pos, length, get_or}
use Rattle.std.proofs.lemmas.List.Edits.{sets}
use Rattle.text.specs.Fields.{text, field_at}
use Rattle.text.specs.declared.Field.{Field}
use Rattle.text.specs.declared.Field.TheVariants.{Blank, Number, Wrong}

-- ---- RULES 7.10: the numbers of a list
-- what a field holds; 0 where it is no number
unfoldable pub value_of : Field → ℤ
value_of Blank = pos 0
value_of (Number z) = z
value_of Wrong = pos 0

-- field i, from 0, of the line that begins at a place
unfoldable pub field_of : List ℕ → ℕ → ℕ → ℤ
field_of s line i = value_of (field_at 9999999 s (line + (1 + 8 * i)))

-- ---- RULES 7.10: templates
-- no number of a drawing is larger
abbrev pub numeral : ℕ → ℤ
numeral n = pos (min n 99999999)

-- a piece for each byte that is no space
unfoldable pub ink : ℕ → List (List ℕ)
ink b = cond (eqb b 32) [] ((b ∷ []) ∷ [])

unfoldable pub inked : List ℕ → List (List ℕ)
inked [] = []
inked (b ∷ bs) = ink b ++ inked bs

-- In a template "$i" stands for field i of the line, "@i" for the same in its eight columns, and "~i" for number i of those given.
unfoldable pub marked : ℕ → ℕ
marked b = cond (eqb b 36) 36 (cond (eqb b 64) 64 (cond (eqb b 126) 126 0))

unfoldable pub unmarked : ℕ → List (List ℕ)
unmarked b = cond (eqb (marked b) 0) ((b ∷ []) ∷ []) []

-- a byte of the template after such a mark, or after none (0); it may be one itself
unfoldable pub part : ℕ → ℕ → List ℕ → ℕ → List ℕ → List (List ℕ)
part mark b s line ns =
    cond (eqb mark 36) (inked (text (field_of s line (b % 16))))
    (cond (eqb mark 64) (text (field_of s line (b % 16)) ∷ [])
    (cond (eqb mark 126) (inked (text (numeral (get_or ns (b % 16) 0))))
    (unmarked b)))

unfoldable pub next : ℕ → ℕ → ℕ
next mark b = cond (eqb mark 0) (marked b) 0

unfoldable pub filled_from : ℕ → List ℕ → List ℕ → ℕ → List ℕ → List (List ℕ)
filled_from mark [] s line ns = []
filled_from mark (b ∷ t) s line ns = part mark b s line ns ++ filled_from (next mark b) t s line ns

abbrev pub filled : List ℕ → List ℕ → ℕ → List ℕ → List (List ℕ)
filled t s line ns = filled_from 0 t s line ns

-- ---- RULES 7.10: what is written
pub record Put : Type 0 where
  pub at : ℕ
  pub out : List ℕ

-- a piece, where it has room
unfoldable pub emit : List ℕ → Put → Put
emit bs p = cond (leb (p.at + length bs) (length p.out)) (record { at = p.at + length bs; out = sets p.out p.at bs }) p

unfoldable pub emits : List (List ℕ) → Put → Put
emits [] p = p
emits (b ∷ bs) p = emits bs (emit b p)

-- pieces one after the other
unfoldable pub joined : List (List ℕ) → List ℕ
joined [] = []
joined (b ∷ bs) = b ++ joined bs
