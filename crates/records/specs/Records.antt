-- RULES 6.5, 6.6, 6.8 to 6.10, 6.24: what each letter's record says, and how long it is. Fields count from 0 here, from 1 in RULES.
use Rattle.std.specs.Prelude.{Option, ℕ, ◌+◌, ◌*◌, min, List, Bool, true, false, ◌&&◌, cond, pos, length, drop, eqb, Float}
use Rattle.std.specs.Int.Signed.{le_z}
use Rattle.emath.specs.declared.Align.{Align}
use Rattle.emath.specs.declared.Align.TheVariants.{Min, Center, Max}
use Rattle.emath.specs.declared.Vec2.{Vec2}
use Rattle.emath.specs.declared.Rect.{Rect}
use Rattle.region.specs.declared.Direction.{Direction}
use Rattle.region.specs.declared.Direction.TheVariants.{LeftToRight, RightToLeft, TopDown, BottomUp}
use Rattle.layout.specs.declared.Layout.{Layout}
use Rattle.text.specs.Letters as letters
use Rattle.text.specs.declared.Field.{Field}
use Rattle.text.specs.declared.Field.TheVariants.{Blank, Number, Wrong as WrongField}
use Rattle.records.specs.declared.GridOptions.{GridOptions}
use Rattle.records.specs.declared.Step.{Step}
use Rattle.records.specs.declared.Step.TheVariants.{Widget, Space, RowHeight, MaxWidth, MaxHeight, MinWidth, MinHeight, RowEnd}
use Rattle.std.specs.Prelude.{Some as Steps, None as Wrong}
use Rattle.records.specs.declared.SizeUnit.{SizeUnit}
use Rattle.records.specs.Parts.{letter, ends, length_in, is_length, length_value, size_in, is_maximum, maximum_value, count_in, is_count, count_value}

-- ---- RULES 6.6: two lengths, fields i and i + 1
unfoldable pub pair_fits : List ℕ → ℕ → Bool
pair_fits s i = is_length (length_in s i) && is_length (length_in s (i + 1))

unfoldable pub pair_in : List ℕ → ℕ → Vec2
pair_in s i = record { x = length_value (length_in s i); y = length_value (length_in s (i + 1)) }

-- ---- RULES 6.8, H: a layout, max_rect and the spacing
-- a direction and an align, by the numbers of RULES 2.1 and 2.2
unfoldable pub direction_of : ℕ → Direction
direction_of n = cond (eqb n 0) LeftToRight (cond (eqb n 1) RightToLeft (cond (eqb n 2) TopDown BottomUp))

unfoldable pub align_of : ℕ → Align
align_of n = cond (eqb n 0) Min (cond (eqb n 1) Center Max)

-- fields 0 to 5
unfoldable pub layout_fits : List ℕ → Bool
layout_fits s =
    is_count (count_in s 0 3) (pos 0) && is_count (count_in s 1 1) (pos 0) && is_count (count_in s 2 2) (pos 0)
    && is_count (count_in s 3 1) (pos 0) && is_count (count_in s 4 2) (pos 0) && is_count (count_in s 5 1) (pos 0)

unfoldable pub layout_in : List ℕ → Layout
layout_in s = record {
  main_dir = direction_of (count_value (count_in s 0 3));
  main_wrap = eqb (count_value (count_in s 1 1)) 1;
  main_align = align_of (count_value (count_in s 2 2));
  main_justify = eqb (count_value (count_in s 3 1)) 1;
  cross_align = align_of (count_value (count_in s 4 2));
  cross_justify = eqb (count_value (count_in s 5 1)) 1;
}

-- fields 6 to 9
unfoldable pub rect_in : List ℕ → Rect
rect_in s = record { left = (pair_in s 6).x; top = (pair_in s 6).y; right = (pair_in s 8).x; bottom = (pair_in s 8).y }

-- whether all of it is as it should be
unfoldable pub heading_fits : List ℕ → Bool
heading_fits s = eqb (letter s) letters.H && (layout_fits s && (pair_fits s 6 && pair_fits s 8) && pair_fits s 10 && ends s 12)

-- ---- RULES 6.9, G: the smallest and the largest cell, the number of columns, the start row
-- fields 2 and 3
unfoldable pub maxima_fit : List ℕ → Bool
maxima_fit s = is_maximum (length_in s 2) && is_maximum (length_in s 3)

unfoldable pub maxima_in : List ℕ → Vec2
maxima_in s = record { x = maximum_value (length_in s 2); y = maximum_value (length_in s 3) }

-- field 4: it may be blank
unfoldable pub is_columns : Field → Bool
is_columns Blank = true
is_columns (Number z) = le_z (pos 1) z
is_columns WrongField = false

-- what it says
unfoldable pub options_in : List ℕ → GridOptions
options_in s = record {
  min_cell_size = pair_in s 0;
  max_cell_size = maxima_in s;
  num_columns = count_value (count_in s 4 32);
  start_row = count_value (count_in s 5 127);
}

-- whether all of it is as it should be, but for the letter
unfoldable pub grid_fits : List ℕ → Bool
grid_fits s = pair_fits s 0 && maxima_fit s && is_columns (count_in s 4 32) && is_count (count_in s 5 127) (pos 0) && ends s 6

-- ---- RULES 6.10: the steps
-- what stands where a step may stand: the step, or none where the record is malformed
abbrev pub Record : Type 0
Record = Option Step

-- a record of n fields is this step where the fields fit and an LF stands after them
unfoldable pub step_record : List ℕ → ℕ → Bool → Step → Record
step_record s n fits step = cond (fits && ends s n) (Steps step) Wrong

-- W, two lengths in the sheet's unit (RULES 6.24); no other record has it
unfoldable pub widget_record : SizeUnit → List ℕ → Record
widget_record u s =
    step_record s 2 (is_length (size_in u s 0) && is_length (size_in u s 1)) (Widget (length_value (size_in u s 0)) (length_value (size_in u s 1)))

-- a letter with one length
abbrev pub single : List ℕ → (Float → Step) → Record
single s step = step_record s 1 (is_length (length_in s 0)) (step (length_value (length_in s 0)))

-- which of the six letters it is
unfoldable pub single_record : List ℕ → ℕ → Record
single_record s b =
    cond (eqb b letters.S) (single s (λ x. Space x))
    (cond (eqb b letters.R) (single s (λ x. RowHeight x))
    (cond (eqb b letters.L) (single s (λ x. MaxWidth x))
    (cond (eqb b letters.K) (single s (λ x. MaxHeight x))
    (cond (eqb b letters.N) (single s (λ x. MinWidth x))
    (cond (eqb b letters.T) (single s (λ x. MinHeight x))
    Wrong)))))

-- the record at the front of a text, where a step may stand: W, E, or a letter with one length; and the one at a place
unfoldable pub record_of : SizeUnit → List ℕ → Record
record_of u s =
    cond (eqb (letter s) letters.W) (widget_record u s)
    (cond (eqb (letter s) letters.E) (step_record s 0 true RowEnd)
    (single_record s (letter s)))

unfoldable pub record_at : SizeUnit → List ℕ → ℕ → Record
record_at u s at = record_of u (drop at s)

-- ---- RULES 6.5: how long a record is: the letter, eight columns for each field, the LF
unfoldable pub field_count : ℕ → ℕ
field_count b =
    cond (eqb b letters.H) 12 (cond (eqb b letters.G) 6 (cond (eqb b letters.W) 2 (cond (eqb b letters.S) 1 (cond (eqb b letters.R) 1
    (cond (eqb b letters.L) 1 (cond (eqb b letters.K) 1 (cond (eqb b letters.N) 1 (cond (eqb b letters.T) 1 0))))))))

abbrev pub size : List ℕ → ℕ
size s = 2 + 8 * field_count (letter s)

-- the text after its first record
abbrev pub rest : List ℕ → List ℕ
rest s = drop (size s) s

-- where the record after the one at a place begins, or the text's end
unfoldable pub next_at : List ℕ → ℕ → ℕ
next_at s at = min (at + size (drop at s)) (length s)
