-- What the record at the front of a text is: a W of the size that its fields say, a row end, another step, or wrong (RULES 6.26).
-- Assumes nothing.
use Rattle.std.proofs.Common.{ℕ, ◌+◌, ◌*◌, ◌≤◌, ◌≡◌, refl, sym, Bool, true, false, cond, ◌&&◌, true≢false, List, ◌∷◌, arith, eqb, nat_abs, Float}
use Rattle.emath.specs.Steps.{tick, val}
use Rattle.text.specs.Letters as letters
use Rattle.text.specs.Fields.{field_at}
use Rattle.text.specs.declared.Field.{Field}
use Rattle.text.specs.declared.Field.TheVariants.{Blank, Number, Wrong as WrongField}
use Rattle.records.specs.Units.{in_steps}
use Rattle.records.specs.Parts.{letter, ends, points, measured, size_in, is_length, length_in, length_value}
use Rattle.records.specs.Records.{step_record, widget_record, single_record, record_of}
use Rattle.records.specs.declared.SizeUnit.{SizeUnit}
use Rattle.records.specs.declared.Step.{Step}
use Rattle.records.specs.declared.Step.TheVariants.{Widget, Space, RowHeight, MaxWidth, MaxHeight, MinWidth, MinHeight, RowEnd}
use Rattle.records.specs.Records.{Record}
use Rattle.std.specs.Prelude.{None, Some}
use Rattle.records.specs.Controls.{only_controls, number_in, size_of, Measures}
use Rattle.text.proofs.RoundTrip.{at-is-text}
use Rattle.records.proofs.Hundredths.{in-steps-few}

-- a field says no more than its limit
number-few : (s : List ℕ) (at : ℕ) → nat_abs (number_in (field_at 2097152 s at)) ≤ 2097152
number-few s at = go (field_at 2097152 s at) refl
  where
    go : (f : Field) → field_at 2097152 s at ≡ f → nat_abs (number_in f) ≤ 2097152
    go Blank e = unfold number_in in omega arith
    go (Number z) e = unfold number_in in (at-is-text 2097152 s at z e).1
    go WrongField e = unfold number_in in omega arith

-- ---- what the record at the front of a text can be: with a W's letter or without
pub data Read (u : SizeUnit) (s : List ℕ) : Bool → Record → Type 0 where
  widget : {w h : Float} → Measures tick u (size_of s).width w → Measures tick u (size_of s).height h → Read u s true (Some (Widget w h))
  row_end : Read u s false (Some RowEnd)
  other : {st : Step} → ((rest : List Step) → only_controls (st ∷ rest) ≡ false) → Read u s false (Some st)
  wrong : {w : Bool} → Read u s w None

either : {u : SizeUnit} {s : List ℕ} {w : Bool} (b : Bool) {x y : Record} → Read u s w x → Read u s w y → Read u s w (cond b x y)
either true p q = p
either false p q = q

-- a field that holds a length says which
said : (u : SizeUnit) (f : Field) → is_length (measured u f) ≡ true → length_value (measured u f) ≡ val tick (in_steps tick u (number_in f))
unfolding measured is_length length_value number_in points
said u Blank h = absurd (true≢false (sym h))
said u (Number z) h = refl
said u WrongField h = absurd (true≢false (sym h))

measures : (u : SizeUnit) (s : List ℕ) (i : ℕ) → is_length (size_in u s i) ≡ true → Measures tick u (number_in (field_at 2097152 s (1 + 8 * i))) (length_value (size_in u s i))
unfolding size_in
measures u s i h = record { is = said u (field_at 2097152 s (1 + 8 * i)) h; few = in-steps-few u _ (number-few s (1 + 8 * i)) }

widget-read : (u : SizeUnit) (s : List ℕ) → Read u s true (widget_record u s)
unfolding widget_record step_record size_of
widget-read u s = go (is_length (size_in u s 0)) (is_length (size_in u s 1)) (ends s 2) refl refl
  where
    go : (a b c : Bool) → is_length (size_in u s 0) ≡ a → is_length (size_in u s 1) ≡ b
        → Read u s true (cond (a && b && c) (Some (Widget (length_value (size_in u s 0)) (length_value (size_in u s 1)))) None)
    go true true true i j = widget (measures u s 0 i) (measures u s 1 j)
    go true true false i j = wrong
    go true false c i j = wrong
    go false b c i j = wrong

step-read : {u : SizeUnit} (s : List ℕ) (n : ℕ) (b : Bool) (st : Step) → Read u s false (Some st) → Read u s false (step_record s n b st)
unfolding step_record
step-read s n b st r = either (b && ends s n) r wrong

single-read : (u : SizeUnit) (s : List ℕ) (b : ℕ) → Read u s false (single_record s b)
unfolding single_record only_controls
single-read u s b =
    let f = is_length (length_in s 0) in
    let x = length_value (length_in s 0) in
    either (eqb b 83) (step-read s 1 f (Space x) (other (λ rest. refl)))
    (either (eqb b 82) (step-read s 1 f (RowHeight x) (other (λ rest. refl)))
    (either (eqb b 76) (step-read s 1 f (MaxWidth x) (other (λ rest. refl)))
    (either (eqb b 75) (step-read s 1 f (MaxHeight x) (other (λ rest. refl)))
    (either (eqb b 78) (step-read s 1 f (MinWidth x) (other (λ rest. refl)))
    (either (eqb b 84) (step-read s 1 f (MinHeight x) (other (λ rest. refl))) wrong)))))

pub read : (u : SizeUnit) (s : List ℕ) → Read u s (eqb (letter s) letters.W) (record_of u s)
unfolding record_of
read u s = go (eqb (letter s) letters.W)
  where
    go : (b : Bool) → Read u s b (cond b (widget_record u s) (cond (eqb (letter s) letters.E) (step_record s 0 true RowEnd) (single_record s (letter s))))
    go true = widget-read u s
    go false = either (eqb (letter s) letters.E) (step-read s 0 true RowEnd row_end) (single-read u s (letter s))
