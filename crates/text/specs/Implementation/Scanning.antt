-- A field read from the left in one go, as the code does it; proofs/Scanned.antt has that this is what Fields.antt says.
use Rattle.std.specs.Prelude.{ℕ, ◌+◌, ◌-◌, ◌*◌, ◌≡◌, List, [], ◌∷◌, Option, Some, None, cond, pos, neg_ℤ, leb, ltb, eqb, drop}
use Rattle.text.specs.Letters as letters
use Rattle.text.specs.declared.Field.{Field}
use Rattle.text.specs.declared.Field.TheVariants.{Blank, Number, Wrong}

-- digits only
unfoldable pub value_from : ℕ → List ℕ → Option ℕ
value_from acc [] = Some acc
value_from acc (b ∷ s) = cond (ltb b letters.ZERO) None (cond (ltb letters.NINE b) None (value_from (acc * 10 + (b - letters.ZERO)) s))

-- a zero stands alone
unfoldable pub zero_only : List ℕ → Option ℕ
zero_only [] = Some 0
zero_only (b ∷ s) = None

unfoldable pub unsigned : List ℕ → Option ℕ
unsigned [] = None
unsigned (b ∷ s) = cond (eqb b letters.ZERO) (zero_only s) (value_from 0 (b ∷ s))

-- at most the limit
unfoldable pub plus : ℕ → Option ℕ → Field
plus limit None = Wrong
plus limit (Some n) = cond (leb n limit) (Number (pos n)) Wrong

unfoldable pub minus : ℕ → Option ℕ → Field
minus limit None = Wrong
minus limit (Some n) = cond (eqb n 0) Wrong (cond (leb n limit) (Number (neg_ℤ (pos n))) Wrong)

unfoldable pub signed : ℕ → List ℕ → Field
signed limit [] = Wrong
signed limit (b ∷ s) = cond (eqb b letters.MINUS) (minus limit (unsigned s)) (plus limit (unsigned (b ∷ s)))

unfoldable pub scan : ℕ → List ℕ → Field
scan limit [] = Blank
scan limit (b ∷ s) = cond (eqb b letters.SPACE) (scan limit s) (signed limit (b ∷ s))

-- the columns before r are spaces: what is left is scanned as all are
abbrev pub Skips : List ℕ → ℕ → Type 0
Skips f r = (limit : ℕ) → scan limit (drop r f) ≡ scan limit f
