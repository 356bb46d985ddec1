-- The check of a whole sheet, record by record: what is known where k records have been read, w of them W, and what each return answers.
-- Assumes nothing.
use Rattle.std.proofs.Common.{ℕ, zero, suc, ◌+◌, ◌-◌, ◌*◌, ◌≤◌, ◌<◌, ◌≡◌, refl, ap, sym, ◌∙◌, List, [], ◌∷◌, Bool, true, false, cond, true≢false, arith, zero-add, ne_eqb, eqb, ltb, length, drop, length-drop, drop_of_length-le}
use Rattle.std.proofs.Math.Seq.{drop-nil}
use Rattle.emath.specs.Numbers as number
use Rattle.emath.specs.Refusals.{or_else}
use Rattle.records.specs.Records.{Record}
use Rattle.std.specs.Prelude.{Some as Steps, None as Wrong}
use Rattle.records.specs.declared.Heading.{Heading}
use Rattle.records.specs.declared.SizeUnit.{SizeUnit}
use Rattle.records.specs.Sheets.{Checked}
use Rattle.records.specs.Sheets.{Accepted, Refused}
use Rattle.records.specs.Records.{record_of, record_at, size, rest, next_at}
use Rattle.records.specs.Headings.{heading_in, heading_fault}
use Rattle.records.specs.Sheets.{records_from, after, steps_left, records, after_all, wrong_from, misplaced, widget, widgets, is_empty, Fault, sheet_fault, checked}
use Rattle.std.specs.Bool.{then_some}
use Rattle.records.specs.declared.Step.{Step}
use Rattle.records.proofs.Places.{next-is-rest}

-- whether a record is a step
unfoldable pub is_step : Record → Bool
is_step (Steps st) = true
is_step Wrong = false

pub then-some : (b : Bool) (st : Step) → then_some b st ≡ cond b (Steps st) Wrong
then-some true st = refl
then-some false st = refl

-- from `at` on: the first fault there is the sheet's first after its heading, and the W and records there, with those read, are all of them
pub record Reached (s : List ℕ) (at k w left : ℕ) : Type 0 where
  pub fault : wrong_from (k + 1) (records_from (heading_in s).unit left (drop at s)) ≡ wrong_from ((heading_in s).records + 1) (records s)
  pub all-widgets : w + widgets (records_from (heading_in s).unit left (drop at s)) ≡ widgets (records s)
  pub all-records : k + length (records_from (heading_in s).unit left (drop at s)) ≡ (heading_in s).records + length (records s)
  pub tail : after left (drop at s) ≡ after_all s

pub start : (s : List ℕ) → Reached s (heading_in s).next (heading_in s).records 0 (steps_left s)
start s = record { fault = refl; all-widgets = zero-add _; all-records = refl; tail = refl }

pub start-at : (s : List ℕ) (h : Heading) → h ≡ heading_in s → Reached s h.next h.records 0 (512 - h.records)
start-at s h e = rw e (start s)

pub not-empty : {A : Type 0} (l : List A) → 0 < length l → is_empty l ≡ false
not-empty [] h = absurd (omega arith)
not-empty (x ∷ l) h = refl

-- ---- one record more
first_of : (m : SizeUnit) (left : ℕ) (u : List ℕ) → 0 < left → 0 < length u → records_from m left u ≡ record_of m u ∷ records_from m (left - 1) (rest u)
unfolding records_from
first_of m zero u h l = absurd (omega arith)
first_of m (suc left) [] h l = absurd (omega arith)
first_of m (suc left) (b ∷ u) h l = let e : suc left - 1 ≡ left = omega arith in rw e

after_first : (left : ℕ) (u : List ℕ) → 0 < left → after left u ≡ after (left - 1) (rest u)
unfolding after
after_first zero u h = absurd (omega arith)
after_first (suc left) u h = let e : suc left - 1 ≡ left = omega arith in rw e

pub records-few : (m : SizeUnit) (left : ℕ) (s : List ℕ) → length (records_from m left s) ≤ left
unfolding records_from
records-few m zero s = omega arith
records-few m (suc left) [] = omega arith
records-few m (suc left) (b ∷ s) = omega (arith, records-few m left (rest (b ∷ s)))

-- the records from a place on, taken one by one
pub records-step : (m : SizeUnit) (left : ℕ) (s : List ℕ) (at : ℕ) → 0 < left → at < length s → records_from m left (drop at s) ≡ record_at m s at ∷ records_from m (left - 1) (drop (next_at s at) s)
unfolding record_at
records-step m left s at more here =
    let l : 0 < length (drop at s) = omega (arith, length-drop at s) in
    first_of m left (drop at s) more l ∙ rw (next-is-rest s at)

pub step-on : (k : ℕ) (r : Record) (rs : List Record) (m : ℕ) → is_step r ≡ true → wrong_from k (r ∷ rs) ≡ m → wrong_from (k + 1) rs ≡ m
unfolding wrong_from is_step
step-on k (Steps st) rs m e h = h
step-on k Wrong rs m e h = absurd (true≢false (sym e))

pub stops : (k : ℕ) (r : Record) (rs : List Record) (m : ℕ) → is_step r ≡ false → wrong_from k (r ∷ rs) ≡ m → k ≡ m
unfolding wrong_from is_step
stops k (Steps st) rs m e h = absurd (true≢false e)
stops k Wrong rs m e h = h

counted : (w n m : ℕ) (r : Record) (rs : List Record) → n ≡ widget r → w + widgets (r ∷ rs) ≡ m → w + n + widgets rs ≡ m
unfolding widgets
counted w n m r rs e h = omega arith

module _ (s : List ℕ) (at k w left : ℕ) (h : Reached s at k w left) (more : 0 < left) (here : at < length s) (r : Record) (er : r ≡ record_at (heading_in s).unit s at) where
  first : records_from (heading_in s).unit left (drop at s) ≡ r ∷ records_from (heading_in s).unit (left - 1) (drop (next_at s at) s)
  first = records-step (heading_in s).unit left s at more here ∙ rw er

  no_step : is_step r ≡ false → k + 1 ≡ wrong_from ((heading_in s).records + 1) (records s)
  no_step e = stops (k + 1) r _ _ e (ap (λ (rs : List Record). wrong_from (k + 1) rs) (sym first) ∙ h.fault)

  pub next : (n : ℕ) → is_step r ≡ true → n ≡ widget r → Reached s (next_at s at) (k + 1) (w + n) (left - 1)
  next n e en = record {
    fault = step-on (k + 1) r _ _ e (ap (λ (rs : List Record). wrong_from (k + 1) rs) (sym first) ∙ h.fault);
    all-widgets = counted w n _ r _ en (ap (λ (rs : List Record). w + widgets rs) (sym first) ∙ h.all-widgets);
    all-records = let c : k + length (r ∷ records_from (heading_in s).unit (left - 1) (drop (next_at s at) s)) ≡ (heading_in s).records + length (records s) = ap (λ (rs : List Record). k + length rs) (sym first) ∙ h.all-records in omega arith;
    tail = rw (next-is-rest s at) (sym (after_first left (drop at s) more) ∙ h.tail);
  }

-- ---- at the text's end, and after the last record that there is room for
pub none_left : (m : SizeUnit) (left : ℕ) → records_from m left [] ≡ []
unfolding records_from
none_left m zero = refl
none_left m (suc left) = refl

pub no_more : (m : SizeUnit) (left : ℕ) (u : List ℕ) → left ≤ 0 → records_from m left u ≡ []
unfolding records_from
no_more m zero u h = refl
no_more m (suc left) u h = absurd (omega arith)

nothing-after : (left : ℕ) → after left [] ≡ []
unfolding after
nothing-after zero = refl
nothing-after (suc left) = ap (λ (u : List ℕ). after left u) (drop-nil (size [])) ∙ nothing-after left

all_after : (left : ℕ) (u : List ℕ) → left ≤ 0 → after left u ≡ u
unfolding after
all_after zero u h = refl
all_after (suc left) u h = absurd (omega arith)

none-wrong : (k : ℕ) → wrong_from k [] ≡ 0
unfolding wrong_from
none-wrong k = refl

no-widgets : widgets [] ≡ 0
unfolding widgets
no-widgets = refl

module _ (s : List ℕ) (at k w left : ℕ) (h : Reached s at k w left) (none : records_from (heading_in s).unit left (drop at s) ≡ []) where
  no-fault : 0 ≡ wrong_from ((heading_in s).records + 1) (records s)
  no-fault = sym (none-wrong (k + 1)) ∙ ap (λ (rs : List Record). wrong_from (k + 1) rs) (sym none) ∙ h.fault

  widgets-are : w ≡ widgets (records s)
  widgets-are = omega (arith, ap (λ (rs : List Record). w + widgets rs) none, h.all-widgets, no-widgets)

  records-are : k ≡ (heading_in s).records + length (records s)
  records-are = omega (arith, ap (λ (rs : List Record). k + length rs) none, h.all-records)

-- ---- what is answered
abbrev tests : Bool → Bool → Fault
tests all short = cond all (cond short (record { number = number.no_room; at = 1 }) (record { number = 0; at = 0 })) (record { number = number.too_long; at = 513 })

by_tests : (all short : Bool) (k w : ℕ) → cond all (cond short (Refused number.no_room 1) (Accepted k w)) (Refused number.too_long 513) ≡ cond (eqb (tests all short).number 0) (Accepted k w) (Refused (tests all short).number (tests all short).at)
by_tests true true k w = refl
by_tests true false k w = refl
by_tests false short k w = refl

module _ (s : List ℕ) (room : ℕ) where
  pub on-heading : (f : ℕ) → f ≡ heading_fault s → (f ≡ 0 → ⊥) → Refused number.malformed f ≡ checked s room
  unfolding checked sheet_fault misplaced or_else
  on-heading f e h = rw (← e, ne_eqb f 0 h, ne_eqb f 0 h)

  module _ (well : heading_fault s ≡ 0) where
    at-fault : (m : ℕ) → 0 < m → m ≡ wrong_from ((heading_in s).records + 1) (records s) → Refused number.malformed m ≡ checked s room
    unfolding checked sheet_fault misplaced or_else
    at-fault m h e = rw (well, ← e, ne_eqb m 0 (λ z. omega arith))

    answer : (b : Bool) (v : Checked) → 0 ≡ wrong_from ((heading_in s).records + 1) (records s) → b ≡ is_empty (after_all s)
        → v ≡ cond (ltb room (8 * widgets (records s))) (Refused number.no_room 1) (Accepted ((heading_in s).records + length (records s)) (widgets (records s))) → cond b v (Refused number.too_long 513) ≡ checked s room
    unfolding checked sheet_fault misplaced or_else
    answer b v em eb ev = rw (well, ← em, eb, ev) (by_tests (is_empty (after_all s)) (ltb room (8 * widgets (records s))) _ _)

    module _ (at k w left : ℕ) (h : Reached s at k w left) where
      pub misplaced-answer : 0 < left → at < length s → (r : Record) → r ≡ record_at (heading_in s).unit s at → (p : Bool) → p ≡ is_step r → p ≡ false → Refused number.malformed (k + 1) ≡ checked s room
      misplaced-answer more here r er p ep e =
          at-fault (k + 1) (omega arith) (no_step s at k w left h more here r er (sym ep ∙ e))

      pub too_many : left ≤ 0 → at < length s → Refused number.too_long 513 ≡ checked s room
      too_many full here =
          let t : is_empty (drop at s) ≡ false = not-empty (drop at s) (omega (arith, length-drop at s)) in
          let a : drop at s ≡ after_all s = sym (all_after left (drop at s) full) ∙ h.tail in
          answer false _ (no-fault s at k w left h (no_more (heading_in s).unit left (drop at s) full)) (sym t ∙ ap (λ (u : List ℕ). is_empty u) a) refl

      pub ended-answer : length s ≤ at → (v : Checked) → v ≡ cond (ltb room (8 * w)) (Refused number.no_room 1) (Accepted k w) → v ≡ checked s room
      ended-answer out v ev =
          let d : drop at s ≡ [] = drop_of_length-le s out in
          let none : records_from (heading_in s).unit left (drop at s) ≡ [] = ap (λ (u : List ℕ). records_from (heading_in s).unit left u) d ∙ none_left (heading_in s).unit left in
          let a : after_all s ≡ [] = sym h.tail ∙ ap (λ (u : List ℕ). after left u) d ∙ nothing-after left in
          let K = records-are s at k w left h none in
          let W = widgets-are s at k w left h none in
          answer true v (no-fault s at k w left h none) (sym (ap (λ (u : List ℕ). is_empty u) a)) (ev ∙ rw (K, W))
