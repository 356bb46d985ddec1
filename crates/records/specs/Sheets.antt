-- RULES 6.11, 8.3, 8.6 to 8.8: a text as records, and refusals 1 to 3, which are looked for over all of it before anything is laid out.
use Rattle.std.specs.Prelude.{ℕ, zero, suc, ◌+◌, ◌-◌, ◌*◌, List, [], ◌∷◌, Bool, true, false, cond, length, drop, ltb, eqb, Result, Ok, Err}
use Rattle.emath.specs.Numbers as number
use Rattle.emath.specs.Refusals.{or_else, number_of}
use Rattle.records.specs.declared.Step.{Step}
use Rattle.records.specs.declared.Step.TheVariants.{Widget, Space, RowHeight, MaxWidth, MaxHeight, MinWidth, MinHeight, RowEnd}
use Rattle.records.specs.Records.{Record}
use Rattle.std.specs.Prelude.{Some as Steps, None as Wrong}
use Rattle.records.specs.declared.SizeUnit.{SizeUnit}
use Rattle.records.specs.declared.Counts.{Counts}
use Rattle.records.specs.declared.SheetRefusal.{SheetRefusal}
use Rattle.records.specs.Records.{record_of, rest}
use Rattle.records.specs.Headings.{heading_in, heading_fault}

-- ---- RULES 6.11: the text as records
-- the first `left` records, or as many as there are, in the sheet's unit
unfoldable pub records_from : SizeUnit → ℕ → List ℕ → List Record
records_from u zero s = []
records_from u (suc left) [] = []
records_from u (suc left) (b ∷ s) = record_of u (b ∷ s) ∷ records_from u left (rest (b ∷ s))

-- what follows them
unfoldable pub after : ℕ → List ℕ → List ℕ
after zero s = s
after (suc left) s = after left (rest s)

-- all records of a sheet are 512 at most; how many may follow the heading, these records, and the text after them
abbrev pub most_records : ℕ
most_records = 512

abbrev pub steps_left : List ℕ → ℕ
steps_left s = most_records - (heading_in s).records

abbrev pub records : List ℕ → List Record
records s = records_from (heading_in s).unit (steps_left s) (drop (heading_in s).next s)

abbrev pub after_all : List ℕ → List ℕ
after_all s = after (steps_left s) (drop (heading_in s).next s)

-- ---- RULES 8.6: number 1
-- of some records, the first being record k, the first that is no step; 0 for none
unfoldable pub wrong_from : ℕ → List Record → ℕ
wrong_from k [] = 0
wrong_from k (Steps st ∷ rs) = wrong_from (k + 1) rs
wrong_from k (Wrong ∷ rs) = k

-- of a text, the first record that is malformed; 0 for none
unfoldable pub misplaced : List ℕ → ℕ
misplaced s = or_else (heading_fault s) (wrong_from ((heading_in s).records + 1) (records s))

-- ---- RULES 8.8: how many W there are, for number 3
-- 1 for a W
unfoldable pub widget_step : Step → ℕ
widget_step (Widget w h) = 1
widget_step (Space x) = 0
widget_step (RowHeight x) = 0
widget_step (MaxWidth x) = 0
widget_step (MaxHeight x) = 0
widget_step (MinWidth x) = 0
widget_step (MinHeight x) = 0
widget_step RowEnd = 0

unfoldable pub widget : Record → ℕ
widget (Steps st) = widget_step st
widget Wrong = 0

unfoldable pub widgets : List Record → ℕ
widgets [] = 0
widgets (r ∷ rs) = widget r + widgets rs

-- ---- RULES 8.7: whether the text ends, for number 2
abbrev pub is_empty : {A : Type 0} → List A → Bool
is_empty [] = true
is_empty (x ∷ xs) = false

-- ---- RULES 8.3: all three, in rising order
-- a refusal's number, 0 for none, and the record that it is at
pub record Fault : Type 0 where
  pub number : ℕ
  pub at : ℕ

-- of a text and a slice with so many places: 1 at the malformed record, 2 at record 513, 3 at record 1 (RULES 8.6 to 8.8)
unfoldable pub sheet_fault : List ℕ → ℕ → Fault
sheet_fault s room =
    cond (eqb (misplaced s) 0)
    (cond (is_empty (after_all s))
    (cond (ltb room (8 * widgets (records s))) (record { number = number.no_room; at = 1 }) (record { number = 0; at = 0 }))
    (record { number = number.too_long; at = most_records + 1 }))
    (record { number = number.malformed; at = misplaced s })

-- the answer: how many records and how many W, or the fault's number and record
pub data Checked : Type 0 where
  Accepted : ℕ → ℕ → Checked
  Refused : ℕ → ℕ → Checked

unfoldable pub checked : List ℕ → ℕ → Checked
checked s room =
    cond (eqb (sheet_fault s room).number 0)
    (Accepted ((heading_in s).records + length (records s)) (widgets (records s)))
    (Refused (sheet_fault s room).number (sheet_fault s room).at)

-- its number and its record, 0 and 0 where the sheet is accepted
unfoldable pub checked_number : Checked → ℕ
checked_number (Accepted k w) = 0
checked_number (Refused n at) = n

unfoldable pub checked_record : Checked → ℕ
checked_record (Accepted k w) = 0
checked_record (Refused n at) = at

-- RULES 8.1, 8.7: what the check answers, with the number for the refusal
abbrev pub checked_outcome : Result Counts SheetRefusal → Checked
checked_outcome (Ok c) = Accepted c.records c.widgets
checked_outcome (Err e) = Refused (number_of e.refusal) e.record
