-- A text's W are the controls of its sheet, what stands after H and M says whether there is a grid, and a refusal's record is at most 600.
-- Assumes nothing.
use Rattle.std.proofs.Common.{ℕ, suc, ◌+◌, ◌*◌, ◌≤◌, ◌≡◌, refl, ap, sym, ◌∙◌, Bool, true, false, cond, List, [], ◌∷◌, arith, eqb, ltb, ℤ, length, drop}
use Rattle.emath.specs.Numbers as number
use Rattle.emath.specs.Refusals.{or_else}
use Rattle.emath.specs.declared.Vec2.{Vec2}
use Rattle.grid.specs.declared.Memory.{Memory}
use Rattle.placer.specs.declared.Placer.{Placer}
use Rattle.records.specs.Records.{heading_fits}
use Rattle.records.specs.Headings.{has_grid_lem, heading_in, unit_fits, options_fit, heading_fault}
use Rattle.records.specs.Sheets.{steps_left, records, after_all, wrong_from, misplaced, widget, widgets, is_empty, Fault, sheet_fault, checked, checked_record}
use Rattle.records.specs.Sheets.{Checked}
use Rattle.records.specs.Sheets.{Accepted, Refused}
use Rattle.records.specs.declared.Step.{Step}
use Rattle.records.specs.Records.{Record}
use Rattle.std.specs.Prelude.{None, Some}
use Rattle.records.proofs.Prefixes.{few-records}
use Rattle.records.proofs.Reached.{records-few}
use Rattle.records.proofs.Checks.{record_is}
use Rattle.sheet.specs.Pass.{Sheet, Ran, Stepped, called, followed, stepped, run_from, headed, grid_set, begun, ran_with, plate_of, remembered, refused_at, outcome_of, pass}
use Rattle.sheet.specs.Texts.{steps_of, sheet_in}
use Rattle.sheet.specs.Slices.{after_check, laid, controls}

-- ---- each W is a control
steps_all : (rs : List Record) → widgets rs ≡ controls (steps_of rs)
unfolding steps_of controls widgets widget
steps_all [] = refl
steps_all (Some st ∷ rs) = omega (arith, steps_all rs)
steps_all (None ∷ rs) = omega (arith, steps_all rs)

pub all-controls : (text : List ℕ) → widgets (records text) ≡ controls (sheet_in text).steps
all-controls text = steps_all (records text)

-- ---- what stands after H and M says whether the sheet has a grid
pub grid-there : (text : List ℕ) → has_grid_lem text ≡ (sheet_in text).heading.has_grid
unfolding heading_in
grid-there text = refl

-- ---- a refusal's record
wrong-few : (k : ℕ) (rs : List Record) → wrong_from k rs ≤ k + length rs
unfolding wrong_from
wrong-few k [] = omega arith
wrong-few k (Some st ∷ rs) = omega (arith, wrong-few (k + 1) rs)
wrong-few k (None ∷ rs) = omega arith

heading-few : (s : List ℕ) → heading_fault s ≤ 3
unfolding heading_fault
heading-few s = go (heading_fits s) (unit_fits s) (options_fit s)
  where
    go : (a b c : Bool) → cond a (cond b (cond c 0 (heading_in s).records) 2) 1 ≤ 3
    go true true true = omega arith
    go true true false = omega (arith, (few-records s).1)
    go true false c = omega arith
    go false b c = omega arith

misplaced-few : (text : List ℕ) → misplaced text ≤ 515
unfolding misplaced or_else
misplaced-few text = go (eqb (heading_fault text) 0)
  where
    go : (b : Bool) → cond b (wrong_from ((heading_in text).records + 1) (records text)) (heading_fault text) ≤ 515
    go true = omega (arith, few-records text, wrong-few ((heading_in text).records + 1) (records text), records-few (heading_in text).unit (steps_left text) (drop (heading_in text).next text))
    go false = omega (arith, heading-few text)

fault-few : (text : List ℕ) (room : ℕ) → (sheet_fault text room).at ≤ 600
unfolding sheet_fault
fault-few text room = go (eqb (misplaced text) 0) (is_empty (after_all text)) (ltb room (8 * widgets (records text)))
  where
    go : (a b c : Bool) → (cond {A = Fault} a (cond b (cond c (record { number = number.no_room; at = 1 }) (record { number = 0; at = 0 })) (record { number = number.too_long; at = 513 })) (record { number = number.malformed; at = misplaced text })).at ≤ 600
    go true true true = omega arith
    go true true false = omega arith
    go true false c = omega arith
    go false b c = omega (arith, misplaced-few text)

checked-few : (text : List ℕ) (room n at : ℕ) → checked text room ≡ Refused n at → at ≤ 600
unfolding checked_record
checked-few text room n at e = let z : (sheet_fault text room).at ≡ at = sym (record_is text room) ∙ ap checked_record e in omega (arith, z, fault-few text room)

steps-few : (rs : List Record) → length (steps_of rs) ≤ length rs
unfolding steps_of
steps-few [] = omega arith
steps-few (Some st ∷ rs) = omega (arith, steps-few rs)
steps-few (None ∷ rs) = omega (arith, steps-few rs)

followed-few : (n : ℕ) (a : Stepped) (later : Ran) (m : ℕ) → n ≤ m → later.at ≤ m → (followed n a later).at ≤ m
unfolding followed
followed-few n a later m l h = go (eqb a.number 0) refl
  where
    go : (b : Bool) → eqb a.number 0 ≡ b → (followed n a later).at ≤ m
    go true e = rw e h
    go false e = rw e l

run-few : (k : ℕ) (sp : Vec2) (n : ℕ) (p : Placer) (steps : List Step) → (run_from k sp n p steps).at ≤ n + length steps
unfolding run_from
run-few k sp n p [] = omega arith
run-few k sp n p (st ∷ rest) =
    followed-few n (stepped k sp p st) (run_from k sp (n + 1) (stepped k sp p st).placer rest) (n + suc (length rest)) (omega arith) (omega (arith, run-few k sp (n + 1) (stepped k sp p st).placer rest))

outcome-few : (grid : Bool) (m : Memory) (r : Ran) (n : ℕ) → r.at ≤ n → (outcome_of grid m r).at ≤ n
unfolding outcome_of
outcome-few grid m r n h = go (eqb r.number 0)
  where
    go : (b : Bool) → (cond b (record { number = 0; at = 0; cells = r.cells; plate = plate_of r.cells; memory = (remembered grid m r.placer).memory; save = (remembered grid m r.placer).save }) (refused_at r.number r.at r.cells m)).at ≤ n
    go true = omega arith
    go false = h

pass-few : (k : ℕ) (s : Sheet) (known : Bool) (m : Memory) (sizing : Bool) → (pass k s known m sizing).at ≤ s.heading.records + 1 + length s.steps
unfolding pass begun ran_with
pass-few k s known m sizing = outcome-few s.heading.has_grid m _ _ (followed-few 1 (called (headed k s.heading)) _ _ (omega arith) (go s.heading.has_grid))
  where
    p : Placer
    p = (headed k s.heading).placer

    q : Placer
    q = (grid_set s.heading known m sizing p).placer

    go : (b : Bool) → (cond b (followed s.heading.records (called (grid_set s.heading known m sizing p)) (run_from k s.heading.spacing (s.heading.records + 1) q s.steps)) (run_from k s.heading.spacing (s.heading.records + 1) p s.steps)).at ≤ s.heading.records + 1 + length s.steps
    go true = followed-few s.heading.records (called (grid_set s.heading known m sizing p)) (run_from k s.heading.spacing (s.heading.records + 1) q s.steps) _ (omega arith) (run-few k s.heading.spacing (s.heading.records + 1) q s.steps)
    go false = omega (arith, run-few k s.heading.spacing (s.heading.records + 1) p s.steps)

pub laid-few : (text : List ℕ) (known : Bool) (m : Memory) (sizing : Bool) (out : List ℤ) → (laid text known m sizing out).outcome.at ≤ 600
unfolding laid after_check
laid-few text known m sizing out = go (checked text (length out)) refl
  where
    go : (c : Checked) → checked text (length out) ≡ c → (after_check c text known m sizing out).outcome.at ≤ 600
    go (Refused n at) e = checked-few text (length out) n at e
    go (Accepted r w) e = omega (arith, pass-few 5 (sheet_in text) known m sizing, steps-few (records text), records-few (heading_in text).unit (steps_left text) (drop (heading_in text).next text), few-records text)
