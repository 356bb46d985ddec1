-- For the contracts of src/walk.rt, cells.rt, plate.rt, outcomes.rt and passing.rt: a run over a text as the code has it, with the grid's
-- arrays lent and the rectangles in the slice.
use Rattle.std.specs.Prelude.{ℕ, ◌+◌, ◌-◌, ◌*◌, ◌≤◌, ◌≡◌, Bool, cond, List, [], ◌∷◌, ◌++◌, ℤ, ltb, length, drop, Float, Result, Ok, Err}
use Rattle.std.proofs.lemmas.List.Edits.{sets}
use Rattle.emath.specs.Rectangles.{union}
use Rattle.emath.specs.Steps.{tick}
use Rattle.emath.specs.Refusals.{number_of}
use Rattle.emath.specs.declared.Refusal.{Refusal}
use Rattle.placer.specs.declared.PlacerAnswer.{PlacerAnswer}
use Rattle.emath.specs.declared.Rect.{Rect}
use Rattle.emath.specs.declared.Vec2.{Vec2}
use Rattle.grid.specs.declared.Memory.{Memory}
use Rattle.placer.specs.Implementation.Lent.{placer_of}
use Rattle.placer.specs.declared.Placer.{Placer}
use Rattle.placer.specs.declared.PlacerSettings.{PlacerSettings}
use Rattle.placer.specs.declared.PassState.{PassState}
use Rattle.records.specs.Sheets.{most_records, records_from, widgets, checked}
use Rattle.records.specs.Headings.{heading_in}
use Rattle.records.specs.Implementation.SizeCache.{AreCached}
use Rattle.records.specs.declared.Heading.{Heading}
use Rattle.records.specs.declared.Step.{Step}
use Rattle.records.specs.Records.{Record}
use Rattle.std.specs.Prelude.{Some}
use Rattle.records.specs.Sheets as checked-of
use Rattle.records.specs.declared.SheetRefusal.{SheetRefusal}
use Rattle.sheet.specs.declared.Ran.{Ran as Came}
use Rattle.sheet.specs.Slices.{Passed}
use Rattle.sheet.specs.Pass.{Sheet, Cell, Ran, run_from, plate_of, outcome_of}
use Rattle.sheet.specs.Texts.{steps_of}
use Rattle.sheet.specs.Ticks.{in_ticks}
use Rattle.sheet.specs.Slices.{edges, written, passed_of}

-- the eight places of W number w, written where `placed` is 1
abbrev pub eight_of : Rect → Rect → List ℤ
eight_of frame widget = edges (in_ticks tick frame) ++ edges (in_ticks tick widget)

unfoldable pub put_at : List ℤ → ℕ → ℕ → Rect → Rect → List ℤ
put_at out w placed frame widget = cond (ltb placed 1) out (sets out (8 * w) (eight_of frame widget))

-- the plate so far with the frame of W number w: the first is the plate, and each later one joins it; where `placed` is 0 there is none
unfoldable pub joined : Rect → ℕ → Rect → Rect
joined plate w frame = cond (ltb w 1) frame (union plate frame)

unfoldable pub plate_with : Rect → ℕ → ℕ → Rect → Rect
plate_with plate w placed frame = cond (ltb placed 1) plate (joined plate w frame)

-- how far a run came: a refusal's number (0: none) and record, the placer, and the plate of the W before
pub record Run : Type 0 where
  pub number : ℕ
  pub at : ℕ
  pub placer : Placer
  pub plate : Rect

-- the code's answer is this, its placer with the arrays that are lent; of a refusal the number, the record and a placer with these arrays
abbrev pub Comes : PlacerSettings → Result Came SheetRefusal → List Float → List Float → List Float → List Float → Run → Type 0
Comes p (Ok a) pw ph ws hs r = r ≡ record { number = 0; at = 0; placer = placer_of p a.state pw ph ws hs; plate = a.plate }
Comes p (Err e) pw ph ws hs r = (r.number ≡ number_of e.refusal) × (r.at ≡ e.record) × ((s : PassState) × (r.placer ≡ placer_of p s pw ph ws hs))

-- the code's answer to a call that gives a placer is this
abbrev pub Sets : Result Placer Refusal → PlacerAnswer → Type 0
Sets (Ok p) a = a ≡ record { number = 0; placer = p }
Sets (Err e) a = a.number ≡ number_of e

-- as a run of Pass.antt, with the rectangles cs
abbrev pub ran_of : List Cell → Run → Ran
ran_of cs r = record { number = r.number; at = r.at; cells = cs; placer = r.placer }

-- a run over some steps, from record n on, its plate, and the slice after it
pub record Walked (sp : Vec2) (n : ℕ) (p : Placer) (steps : List Step) (out : List ℤ) (r : Run) (exit : List ℤ) : Type 0 where
  pub run : ran_of (run_from tick sp n p steps).cells r ≡ run_from tick sp n p steps
  pub plate : r.plate ≡ plate_of (run_from tick sp n p steps).cells
  pub slice : exit ≡ sets out 0 (written (run_from tick sp n p steps).cells)

-- an answer and a slice that are those of a run
pub record Answers (grid : Bool) (m : Memory) (r : Ran) (out : List ℤ) (p : Passed) (exit : List ℤ) : Type 0 where
  pub answer : p ≡ passed_of (outcome_of grid m r)
  pub slice : exit ≡ sets out 0 (written r.cells)

-- records that are all steps
pub data OnlySteps : List Record → Type 0 where
  none : OnlySteps []
  more : {st : Step} {rs : List Record} → OnlySteps rs → OnlySteps (Some st ∷ rs)

-- the records after a heading
abbrev pub records_after : Heading → List ℕ → List Record
records_after h text = records_from h.unit (most_records - h.records) (drop h.next text)

abbrev pub sheet_after : Heading → List ℕ → Sheet
sheet_after h text = record { heading = h; steps = steps_of (records_after h text) }

-- what an accepted check leaves: the records after the heading are steps, the slice has room for the W among them, and these are cached
pub record Room (h : Heading) (text : List ℕ) (room : ℕ) (sizes : List Float) : Type 0 where
  pub few : h.records ≤ most_records
  pub begins : h.next ≤ length text
  pub only : OnlySteps (records_after h text)
  pub fits : 8 * widgets (records_after h text) ≤ room
  pub cached : AreCached h.unit (most_records - h.records) (drop h.next text) sizes (h.records + 1)

-- a text whose check was accepted before
pub record Known (text : List ℕ) (room : ℕ) (sizes : List Float) : Type 0 where
  pub all : ℕ
  pub widgets : ℕ
  pub accepted : checked text room ≡ checked-of.Accepted all widgets
  pub ready : Room (heading_in text) text room sizes
