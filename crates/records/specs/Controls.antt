-- RULES 6.26: sheets of controls, and the sizes of the controls as the fields of the W say them.
use Rattle.std.specs.Prelude.{ℕ, zero, suc, ◌≤◌, ◌≡◌, Bool, true, false, cond, List, [], ◌∷◌, ℤ, pos, nat_abs, eqb, drop, Float}
use Rattle.emath.specs.Steps.{val, most}
use Rattle.text.specs.Letters as letters
use Rattle.text.specs.Fields.{field_at}
use Rattle.text.specs.declared.Field.{Field}
use Rattle.text.specs.declared.Field.TheVariants.{Blank, Number, Wrong}
use Rattle.records.specs.Units.{in_steps}
use Rattle.records.specs.Records.{rest}
use Rattle.records.specs.Headings.{heading_in}
use Rattle.records.specs.Sheets.{steps_left}
use Rattle.records.specs.declared.SizeUnit.{SizeUnit}
use Rattle.records.specs.declared.Step.{Step}
use Rattle.records.specs.declared.Step.TheVariants.{Widget, Space, RowHeight, MaxWidth, MaxHeight, MinWidth, MinHeight, RowEnd}

-- RULES 6.26: whether the steps are W and E only. They stand after the heading, to which M belongs as H does.
unfoldable pub only_controls : List Step → Bool
only_controls [] = true
only_controls (Widget w h ∷ rest) = only_controls rest
only_controls (Space a ∷ rest) = false
only_controls (RowHeight h ∷ rest) = false
only_controls (MaxWidth w ∷ rest) = false
only_controls (MaxHeight h ∷ rest) = false
only_controls (MinWidth w ∷ rest) = false
only_controls (MinHeight h ∷ rest) = false
only_controls (RowEnd ∷ rest) = only_controls rest

-- ---- RULES 6.26: sizes as they are written, in the sheet's unit
pub record Size : Type 0 where
  pub width : ℤ
  pub height : ℤ

-- what a field says; 0 where that is no number
unfoldable pub number_in : Field → ℤ
number_in Blank = pos 0
number_in (Number z) = z
number_in Wrong = pos 0

-- RULES 6.26: the size of the W at the front of a text
unfoldable pub size_of : List ℕ → Size
size_of s = record { width = number_in (field_at 2097152 s 1); height = number_in (field_at 2097152 s 9) }

-- RULES 6.26: those of the W among at most `left` records; and among all after the heading
unfoldable pub sizes_from : ℕ → List ℕ → List Size
sizes_from zero s = []
sizes_from (suc left) [] = []
sizes_from (suc left) (b ∷ s) = cond (eqb b letters.W) (size_of (b ∷ s) ∷ sizes_from left (rest (b ∷ s))) (sizes_from left (rest (b ∷ s)))

abbrev pub sizes_in : List ℕ → List Size
sizes_in text = sizes_from (steps_left text) (drop (heading_in text).next text)

-- RULES 6.26: x is what a field z says in the unit u, a whole number of steps of 1 / 2 ^ k point, of the domain
pub record Measures (k : ℕ) (u : SizeUnit) (z : ℤ) (x : Float) : Type 0 where
  pub is : x ≡ val k (in_steps k u z)
  pub few : nat_abs (in_steps k u z) ≤ most k

-- RULES 6.26: W of these sizes, one after the other, and row ends between them
pub data Sized (k : ℕ) (u : SizeUnit) : List Size → List Step → Type 0 where
  none : Sized k u [] []
  control : {s : Size} {w h : Float} {sizes : List Size} {steps : List Step} → Measures k u s.width w → Measures k u s.height h → Sized k u sizes steps
      → Sized k u (s ∷ sizes) (Widget w h ∷ steps)
  row_end : {sizes : List Size} {steps : List Step} → Sized k u sizes steps → Sized k u sizes (RowEnd ∷ steps)
