-- What a pass leaves in a lent slice: the eight places of each W before a fault, which are all there, and every other place as it was.
-- Assumes nothing.
use Prim.Native.Nat.{ℕ, ◌+◌, ◌*◌, ◌≤◌, ◌<◌}
use mathlib.Core.Path.{◌≡◌, refl, ap, ◌∙◌}
use mathlib.Core.Bool.{Bool, true, false, cond}
use mathlib.Core.List.{List, [], ◌∷◌, ◌++◌}
use native.Mathlib.Omega.{arith}
use lib.IntN.{ℤ}
use lib.Dec.{eqb}
use lib.ListN.{length, take, drop, length-append}
use lib.Seq.{sets-eq, length-sets}
use lib.Ieee.{Float}
use Rattle.emath.specs.Steps.{tick}
use Rattle.emath.specs.declared.Vec2.{Vec2}
use Rattle.grid.specs.declared.Memory.{Memory}
use Rattle.placer.specs.declared.Placer.{Placer}
use Rattle.records.specs.Headings.{heading_in}
use Rattle.records.specs.Sheets.{records, wrong_from, widgets, widget, widget_step, checked}
use Rattle.records.specs.Implementation.SizeCache.{cached_by}
use Rattle.records.proofs.Places.{heading-within}
use Rattle.records.proofs.Prefixes.{few-records}
use Rattle.records.proofs.Checks.{clear}
use Rattle.records.proofs.SizeCache.{cached-in}
use Rattle.sheet.specs.Implementation.Walks.{OnlySteps, none, more, Room}
use Rattle.records.specs.Sheets.{Checked}
use Rattle.records.specs.Sheets.{Accepted, Refused}
use Rattle.records.specs.declared.Step.{Step}
use Rattle.records.specs.declared.Step.TheVariants.{Widget, Space, RowHeight, MaxWidth, MaxHeight, MinWidth, MinHeight, RowEnd}
use Rattle.records.specs.Records.{Record}
use Rattle.std.specs.Prelude.{None, Some}
use Rattle.sheet.specs.Pass as pass-rules
use Rattle.sheet.specs.Pass.{Sheet, Cell, Ran, Stepped, stepped, followed, run_from, called, headed, grid_set, begun, ran_with, plate_of, remembered, refused_at, outcome_of, pass}
use Rattle.sheet.specs.Texts.{steps_of, sheet_in}
use Rattle.sheet.specs.Slices.{written, after_check, laid}
use Rattle.sheet.specs.Slices.{controls}

pub written-length : (cs : List Cell) → length (written cs) ≡ 8 * length cs
unfolding written
written-length [] = refl
written-length (c ∷ cs) = omega (arith, written-length cs)

-- ---- no more cells than W
pub one_cell : (k : ℕ) (sp : Vec2) (p : Placer) (st : Step) → length (stepped k sp p st).cells ≡ widget_step st
unfolding stepped pass-rules.widget_step widget_step
one_cell k sp p (Widget w h) = refl
one_cell k sp p (Space a) = refl
one_cell k sp p RowEnd = refl
one_cell k sp p (RowHeight h) = refl
one_cell k sp p (MaxWidth w) = refl
one_cell k sp p (MaxHeight h) = refl
one_cell k sp p (MinWidth w) = refl
one_cell k sp p (MinHeight h) = refl

followed-few : (n : ℕ) (a : Stepped) (later : Ran) (m : ℕ) → length later.cells ≤ m → length (followed n a later).cells ≤ length a.cells + m
unfolding followed
followed-few n a later m h = go (eqb a.number 0) refl
  where
    go : (b : Bool) → eqb a.number 0 ≡ b → length (followed n a later).cells ≤ length a.cells + m
    go true e = rw e (omega (arith, length-append a.cells later.cells, h))
    go false e = rw e (omega arith)

run-few : (k : ℕ) (sp : Vec2) (n : ℕ) (p : Placer) (steps : List Step) → length (run_from k sp n p steps).cells ≤ controls steps
unfolding run_from controls
run-few k sp n p [] = omega arith
run-few k sp n p (st ∷ rest) =
    let f = followed-few n (stepped k sp p st) (run_from k sp (n + 1) (stepped k sp p st).placer rest) (controls rest) (run-few k sp (n + 1) (stepped k sp p st).placer rest) in
    omega (arith, f, one_cell k sp p st)

ran-few : (k : ℕ) (s : Sheet) (known : Bool) (m : Memory) (sizing : Bool) (p : Placer) → length (ran_with k s known m sizing p).cells ≤ controls s.steps
unfolding ran_with begun
ran-few k s known m sizing p = go s.heading.has_grid
  where
    later : Ran
    later = run_from k s.heading.spacing (s.heading.records + 1) (grid_set s.heading known m sizing p).placer s.steps

    go : (b : Bool) → length (cond b (followed s.heading.records (called (grid_set s.heading known m sizing p)) later) (run_from k s.heading.spacing (s.heading.records + 1) p s.steps)).cells ≤ controls s.steps
    go true =
        let f = followed-few s.heading.records (called (grid_set s.heading known m sizing p)) later (controls s.steps) (run-few k s.heading.spacing (s.heading.records + 1) (grid_set s.heading known m sizing p).placer s.steps) in
        omega (arith, f)
    go false = run-few k s.heading.spacing (s.heading.records + 1) p s.steps

pub outcome-cells : (grid : Bool) (m : Memory) (r : Ran) → (outcome_of grid m r).cells ≡ r.cells
unfolding outcome_of
outcome-cells grid m r = go (eqb r.number 0)
  where
    go : (b : Bool) → (cond b (record { number = 0; at = 0; cells = r.cells; plate = plate_of r.cells; memory = (remembered grid m r.placer).memory; save = (remembered grid m r.placer).save }) (refused_at r.number r.at r.cells m)).cells ≡ r.cells
    go true = refl
    go false = refl

pub pass-few : (k : ℕ) (s : Sheet) (known : Bool) (m : Memory) (sizing : Bool) → length (pass k s known m sizing).cells ≤ controls s.steps
unfolding pass begun
pass-few k s known m sizing =
    let r = ran_with k s known m sizing (headed k s.heading).placer in
    let f = followed-few 1 (called (headed k s.heading)) r (controls s.steps) (ran-few k s known m sizing (headed k s.heading).placer) in
    omega (arith, f, ap (λ (cs : List Cell). length cs) (outcome-cells s.heading.has_grid m (followed 1 (called (headed k s.heading)) r)))

-- ---- no more W among a sheet's steps than among the text's records
pub sheet-few : (rs : List Record) → controls (steps_of rs) ≤ widgets rs
unfolding steps_of controls widgets widget
sheet-few [] = omega arith
sheet-few (Some st ∷ rs) = omega (arith, sheet-few rs)
sheet-few (None ∷ rs) = omega (arith, sheet-few rs)

-- ---- the records of a text that is not refused are steps
pub only-steps : (k : ℕ) (rs : List Record) → 0 < k → wrong_from k rs ≡ 0 → OnlySteps rs
unfolding wrong_from
only-steps k [] l h = none
only-steps k (Some st ∷ rs) l h = more (only-steps (k + 1) rs (omega arith) h)
only-steps k (None ∷ rs) l h = absurd (omega (arith, h))

-- there is room for it, and its W are cached
pub room_after : (text : List ℕ) (room r w : ℕ) (sizes : List Float) → length sizes ≡ 1026 → checked text room ≡ Accepted r w → Room (heading_in text) text room (cached_by text sizes)
room_after text room r w sizes l e =
    let c = clear text room r w e in
    record {
      few = omega (arith, few-records text);
      begins = heading-within text;
      only = only-steps ((heading_in text).records + 1) (records text) (omega arith) c.steps;
      fits = c.fits;
      cached = cached-in text room r w sizes l e;
    }

-- ---- the slice
-- it stays as long as it was
pub laid-length : (text : List ℕ) (known : Bool) (m : Memory) (sizing : Bool) (out : List ℤ) → length (laid text known m sizing out).slice ≡ length out
unfolding laid after_check
laid-length text known m sizing out = go (checked text (length out))
  where
    go : (c : Checked) → length (after_check c text known m sizing out).slice ≡ length out
    go (Refused n at) = refl
    go (Accepted r w) = length-sets out 0 (written (pass tick (sheet_in text) known m sizing).cells)

module _ (text : List ℕ) (known : Bool) (m : Memory) (sizing : Bool) (out : List ℤ) where
  abbrev pub cells : List Cell
  cells = (pass tick (sheet_in text) known m sizing).cells

  -- 1 to 3 leave it as it was
  pub untouched : (n at : ℕ) → checked text (length out) ≡ Refused n at → (laid text known m sizing out).slice ≡ out
  unfolding laid after_check
  untouched n at e = rw e

  -- later each W before the fault has its eight places, and every other place holds what it held
  pub slice_is : (r w : ℕ) → checked text (length out) ≡ Accepted r w → (laid text known m sizing out).slice ≡ written cells ++ drop (8 * length cells) out
  unfolding laid after_check
  slice_is r w e =
      let f = pass-few tick (sheet_in text) known m sizing in
      let g = sheet-few (records text) in
      let l = written-length cells in
      rw e (sets-eq (written cells) out 0 (omega (arith, l, f, g, (clear text (length out) r w e).fits)) ∙ rest l)
    where
      rest : length (written cells) ≡ 8 * length cells → take 0 out ++ (written cells ++ drop (0 + length (written cells)) out) ≡ written cells ++ drop (8 * length cells) out
      rest l = let z : 0 + length (written cells) ≡ 8 * length cells = omega (arith, l) in rw z
