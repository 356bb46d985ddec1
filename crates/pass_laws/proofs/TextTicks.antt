-- Every sheet that is read from a text is in whole ticks, whatever the text. Assumes nothing.
use Prim.Native.Nat.{ℕ, zero, suc, ◌+◌, ◌*◌, ◌≤◌}
use mathlib.Core.Path.{◌≡◌, refl}
use mathlib.Core.Bool.{Bool, true, false, cond, ◌&&◌}
use lib.Dec.{eqb}
use lib.ListN.{drop}
use mathlib.Core.List.{List, [], ◌∷◌}
use lib.IntN.{ℤ, nat_abs}
use Rattle.emath.specs.Steps.{Edge}
use Rattle.region.specs.Steps.{WholeRect, WholeSize}
use Rattle.region.specs.Regions.{zero_vec}
use Rattle.text.specs.Fields.{field_at}
use Rattle.text.specs.declared.Field.{Field}
use Rattle.text.specs.declared.Field.TheVariants as field
use Rattle.text.proofs.RoundTrip.{at-is-text}
use Rattle.records.specs.declared.SizeUnit.{SizeUnit}
use Rattle.records.specs.declared.SizeUnit.TheVariants.{Steps}
use Rattle.records.specs.Units.{in_steps}
use Rattle.records.proofs.Hundredths.{in-steps-few}
use Rattle.records.specs.Parts.{letter, ends, points, length_in, measured, size_in, is_length, length_value}
use Rattle.records.specs.Records.{pair_in, rect_in, options_in, step_record, widget_record, single_record, record_of}
use Rattle.records.specs.Headings.{grid_at, has_grid_lem, no_options, heading_in}
use Rattle.records.specs.Sheets.{records_from, steps_left}
use Rattle.records.specs.declared.Step.{Step}
use Rattle.records.specs.declared.Step.TheVariants.{Widget, Space, RowHeight, MaxWidth, MaxHeight, MinWidth, MinHeight, RowEnd}
use Rattle.records.specs.Records.{Record}
use Rattle.std.specs.Prelude.{None, Some}
use Rattle.pass_laws.specs.WholeSheets.{WholeSteps, WholeSheet}
use Rattle.sheet.specs.Texts.{steps_of, sheet_in}
use Rattle.sheet.proofs.Plates.{zero-edge}

points-edge : (z : ℤ) → nat_abs z ≤ 2097152 → Edge 5 (points z)
unfolding points
points-edge z h = record { steps = z; few = h; is = refl }

-- ---- a length of a record, in either unit
measured-edge : (u : SizeUnit) (f : Field) → ((z : ℤ) → f ≡ field.Number z → nat_abs z ≤ 2097152) → Edge 5 (length_value (measured u f))
unfolding measured length_value
measured-edge u field.Blank h = zero-edge 5
measured-edge u (field.Number z) h = points-edge (in_steps 5 u z) (in-steps-few u z (h z refl))
measured-edge u field.Wrong h = zero-edge 5

size-edge : (u : SizeUnit) (s : List ℕ) (i : ℕ) → Edge 5 (length_value (size_in u s i))
unfolding size_in
size-edge u s i = measured-edge u (field_at 2097152 s (1 + 8 * i)) (λ z e. (at-is-text 2097152 s (1 + 8 * i) z e).1)

pub length-edge : (s : List ℕ) (i : ℕ) → Edge 5 (length_value (length_in s i))
unfolding length_in
length-edge s i = size-edge Steps s i

pair-whole : (s : List ℕ) (i : ℕ) → WholeSize 5 (pair_in s i)
unfolding pair_in
pair-whole s i = record { x = length-edge s i; y = length-edge s (i + 1) }

rect-whole : (s : List ℕ) → WholeRect 5 (rect_in s)
unfolding rect_in
rect-whole s = record { left = (pair-whole s 6).x; top = (pair-whole s 6).y; right = (pair-whole s 8).x; bottom = (pair-whole s 8).y }

-- ---- a record
pub data WholeRecord : Record → Type 0 where
  step : {st : Step} → WholeSteps 5 (st ∷ []) → WholeRecord (Some st)
  wrong : WholeRecord None

either : (b : Bool) {x y : Record} → WholeRecord x → WholeRecord y → WholeRecord (cond b x y)
either true p q = p
either false p q = q

options-whole : (s : List ℕ) → WholeSize 5 (options_in s).min_cell_size
unfolding options_in
options-whole s = pair-whole s 0

step-whole : (s : List ℕ) (n : ℕ) (b : Bool) (st : Step) → WholeSteps 5 (st ∷ []) → WholeRecord (step_record s n b st)
unfolding step_record
step-whole s n b st w = either (b && ends s n) (step w) wrong

widget-whole : (u : SizeUnit) (s : List ℕ) → WholeRecord (widget_record u s)
unfolding widget_record
widget-whole u s = step-whole s 2 (is_length (size_in u s 0) && is_length (size_in u s 1)) (Widget (length_value (size_in u s 0)) (length_value (size_in u s 1))) (WholeSteps.control (size-edge u s 0) (size-edge u s 1) WholeSteps.none)

single-whole : (s : List ℕ) (b : ℕ) → WholeRecord (single_record s b)
unfolding single_record
single-whole s b =
    let e = length-edge s 0 in
    let f = is_length (length_in s 0) in
    let x = length_value (length_in s 0) in
    either (eqb b 83) (step-whole s 1 f (Space x) (WholeSteps.space e WholeSteps.none))
    (either (eqb b 82) (step-whole s 1 f (RowHeight x) (WholeSteps.row_height e WholeSteps.none))
    (either (eqb b 76) (step-whole s 1 f (MaxWidth x) (WholeSteps.max_width e WholeSteps.none))
    (either (eqb b 75) (step-whole s 1 f (MaxHeight x) (WholeSteps.max_height e WholeSteps.none))
    (either (eqb b 78) (step-whole s 1 f (MinWidth x) (WholeSteps.min_width e WholeSteps.none))
    (either (eqb b 84) (step-whole s 1 f (MinHeight x) (WholeSteps.min_height e WholeSteps.none)) wrong)))))

pub record-whole : (u : SizeUnit) (s : List ℕ) → WholeRecord (record_of u s)
unfolding record_of
record-whole u s =
    either (eqb (letter s) 87) (widget-whole u s) (either (eqb (letter s) 69) (step-whole s 0 true RowEnd (WholeSteps.row_end WholeSteps.none)) (single-whole s (letter s)))

-- ---- a sheet
data AllWhole : List Record → Type 0 where
  none : AllWhole []
  more : {r : Record} {rs : List Record} → WholeRecord r → AllWhole rs → AllWhole (r ∷ rs)

records-whole : (u : SizeUnit) (left : ℕ) (s : List ℕ) → AllWhole (records_from u left s)
unfolding records_from
records-whole u zero s = none
records-whole u (suc left) [] = none
records-whole u (suc left) (b ∷ s) = more (record-whole u (b ∷ s)) (records-whole u left _)

after-step : {st : Step} {rest : List Step} → WholeSteps 5 (st ∷ []) → WholeSteps 5 rest → WholeSteps 5 (st ∷ rest)
after-step (WholeSteps.control a b t) r = WholeSteps.control a b r
after-step (WholeSteps.space e t) r = WholeSteps.space e r
after-step (WholeSteps.row_height e t) r = WholeSteps.row_height e r
after-step (WholeSteps.max_width e t) r = WholeSteps.max_width e r
after-step (WholeSteps.max_height e t) r = WholeSteps.max_height e r
after-step (WholeSteps.min_width e t) r = WholeSteps.min_width e r
after-step (WholeSteps.min_height e t) r = WholeSteps.min_height e r
after-step (WholeSteps.row_end t) r = WholeSteps.row_end r

steps-whole : {rs : List Record} → AllWhole rs → WholeSteps 5 (steps_of rs)
unfolding steps_of
steps-whole none = WholeSteps.none
steps-whole (more (step w) t) = after-step w (steps-whole t)
steps-whole (more wrong t) = steps-whole t

zero-size : WholeSize 5 zero_vec
zero-size = record { x = zero-edge 5; y = zero-edge 5 }

smallest-whole : (s : List ℕ) → WholeSize 5 (heading_in s).options.min_cell_size
unfolding heading_in
smallest-whole s = go (has_grid_lem s)
  where
    go : (b : Bool) → WholeSize 5 (cond b (options_in (drop (grid_at s) s)) no_options).min_cell_size
    go true = options-whole (drop (grid_at s) s)
    go false = zero-size

pub text-whole : (text : List ℕ) → WholeSheet 5 (sheet_in text)
unfolding heading_in
text-whole text = record { rect = rect-whole text; spacing = pair-whole text 10; smallest = smallest-whole text; steps = steps-whole (records-whole (heading_in text).unit (steps_left text) (drop (heading_in text).next text)) }
