-- RULES 6.5 to 6.7, 6.9, 6.24: the parts of the record at the front of a text: its letter, its fields, counted from 0 here, and its end.
use Rattle.std.specs.Prelude.{ℕ, ◌+◌, ◌*◌, List, Bool, true, false, ℤ, pos, negsuc, get_or, eqb, Float}
use Rattle.std.specs.Int.Signed.{le_z}
use Rattle.std.specs.Float.{inf}
use Rattle.emath.specs.Rectangles.{zero_f}
use Rattle.emath.specs.Steps.{tick, val}
use Rattle.text.specs.Fields.{field_at}
use Rattle.text.specs.Letters as letters
use Rattle.text.specs.declared.Field.{Field}
use Rattle.text.specs.declared.Field.TheVariants as field
use Rattle.records.specs.declared.Length.{Length}
use Rattle.records.specs.declared.Length.TheVariants.{Points, Blank, Wrong}
use Rattle.records.specs.declared.SizeUnit.{SizeUnit}
use Rattle.records.specs.declared.SizeUnit.TheVariants.{Steps}
use Rattle.records.specs.Units.{in_steps}

-- ---- RULES 6.5: the letter and the end
-- the letter; 0 where there is none
abbrev pub letter : List ℕ → ℕ
letter s = get_or s 0 0

-- whether an LF stands after n fields
unfoldable pub ends : List ℕ → ℕ → Bool
ends s n = eqb (get_or s (1 + 8 * n) 0) letters.LF

-- ---- RULES 6.6, 6.24: a length
-- z ticks in points: z / 32
unfoldable pub points : ℤ → Float
points z = val tick z

-- what a field in this unit says
unfoldable pub measured : SizeUnit → Field → Length
measured u field.Blank = Blank
measured u (field.Number z) = Points (points (in_steps tick u z))
measured u field.Wrong = Wrong

-- field i, read with the limit: of a W, in the sheet's unit; and of any other record, in steps
unfoldable pub size_in : SizeUnit → List ℕ → ℕ → Length
size_in u s i = measured u (field_at 2097152 s (1 + 8 * i))

unfoldable pub length_in : List ℕ → ℕ → Length
length_in s i = size_in Steps s i

-- whether it is a length, and which; zero where it is none
unfoldable pub is_length : Length → Bool
is_length (Points x) = true
is_length Blank = false
is_length Wrong = false

unfoldable pub length_value : Length → Float
length_value (Points x) = x
length_value Blank = zero_f
length_value Wrong = zero_f

-- ---- RULES 6.9: a maximum cell's length, +∞ where it is blank
unfoldable pub is_maximum : Length → Bool
is_maximum (Points x) = true
is_maximum Blank = true
is_maximum Wrong = false

unfoldable pub maximum_value : Length → Float
maximum_value (Points x) = x
maximum_value Blank = inf false
maximum_value Wrong = zero_f

-- ---- RULES 6.7: a count from `least` to `most`: a flag, a direction, an align, a number of columns, a row
-- field i, read with `most` as the limit
unfoldable pub count_in : List ℕ → ℕ → ℕ → Field
count_in s i most = field_at most s (1 + 8 * i)

-- whether it reaches `least`
unfoldable pub is_count : Field → ℤ → Bool
is_count field.Blank least = false
is_count (field.Number z) least = le_z least z
is_count field.Wrong least = false

-- the count; 0 where it is none
unfoldable pub natural : ℤ → ℕ
natural (pos n) = n
natural (negsuc n) = 0

unfoldable pub count_value : Field → ℕ
count_value field.Blank = 0
count_value (field.Number z) = natural z
count_value field.Wrong = 0
