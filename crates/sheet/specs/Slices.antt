-- RULES 6.12, 6.18, 8.3, 8.19: one pass over a text, with a lent slice for the rectangles, in ticks; and what the call promises.
use Rattle.std.specs.Prelude.{ℕ, ◌+◌, ◌≡◌, Bool, cond, List, [], ◌∷◌, ◌++◌, eqb, ℤ, length, Result, Ok, Err}
use Rattle.std.proofs.lemmas.List.Edits.{sets}
use Rattle.emath.specs.Steps.{tick}
use Rattle.emath.specs.Refusals.{number_of}
use Rattle.emath.specs.declared.Rect.{Rect}
use Rattle.grid.specs.declared.Memory.{Memory}
use Rattle.records.specs.Sheets as checked-of
use Rattle.records.specs.Sheets.{checked, widget_step}
use Rattle.records.specs.declared.Step.{Step}
use Rattle.records.specs.Sheets.{Checked}
use Rattle.records.specs.declared.SheetRefusal.{SheetRefusal}
use Rattle.sheet.specs.declared.Passed.{Passed as Given}
use Rattle.sheet.specs.Pass.{Cell, Outcome, refused_at, pass}
use Rattle.sheet.specs.Texts.{sheet_in}
use Rattle.sheet.specs.Ticks.{Ticks, in_ticks}

-- ---- RULES 6.18: the eight places of each W, its frame's edges and its widget's
abbrev pub edges : Ticks → List ℤ
edges t = t.left ∷ t.top ∷ t.right ∷ t.bottom ∷ []

abbrev pub eight : Cell → List ℤ
eight c = edges (in_ticks tick c.frame) ++ edges (in_ticks tick c.widget)

unfoldable pub written : List Cell → List ℤ
written [] = []
written (c ∷ rest) = eight c ++ written rest

-- ---- RULES 6.12: what the call answers
-- accepted, or the number and the record
pub data Laid : Type 0 where
  Accepted : Laid
  Refused : ℕ → ℕ → Laid

unfoldable pub laid_of : ℕ → ℕ → Laid
laid_of number at = cond (eqb number 0) Accepted (Refused number at)

-- its number and its record, 0 and 0 where the pass is accepted
unfoldable pub laid_number : Laid → ℕ
laid_number Accepted = 0
laid_number (Refused n at) = n

unfoldable pub laid_record : Laid → ℕ
laid_record Accepted = 0
laid_record (Refused n at) = at

-- the whole answer; the rectangles stand in the slice
pub record Passed : Type 0 where
  pub laid : Laid
  pub plate : Rect
  pub memory : Memory
  pub save : Bool

abbrev pub passed_of : Outcome → Passed
passed_of o = record { laid = laid_of o.number o.at; plate = o.plate; memory = o.memory; save = o.save }

-- RULES 8.1: what a call answers, with the number for the refusal
abbrev pub laid_outcome : Result (Unit {0}) SheetRefusal → Laid
laid_outcome (Ok u) = Accepted
laid_outcome (Err e) = Refused (number_of e.refusal) e.record

abbrev pub passed_outcome : Given → Passed
passed_outcome p = record { laid = laid_outcome p.laid; plate = p.plate; memory = p.memory; save = p.save }

-- ---- RULES 6.12: what the call does
-- what a pass gives, and what the slice then holds
pub record LaidOut : Type 0 where
  pub outcome : Outcome
  pub slice : List ℤ

-- RULES 8.3, 8.19: after 1 to 3, which come first, the slice is as it was; else each W laid out has its places, and no other changes
unfoldable pub after_check : Checked → List ℕ → Bool → Memory → Bool → List ℤ → LaidOut
after_check (checked-of.Refused n at) text known m sizing out = record { outcome = refused_at n at [] m; slice = out }
after_check (checked-of.Accepted records widgets) text known m sizing out = record {
  outcome = pass tick (sheet_in text) known m sizing;
  slice = sets out 0 (written (pass tick (sheet_in text) known m sizing).cells);
}

-- the text is checked, then the pass runs
unfoldable pub laid : List ℕ → Bool → Memory → Bool → List ℤ → LaidOut
laid text known m sizing out = after_check (checked text (length out)) text known m sizing out

-- ---- RULES 6.12, 10.1, 10.12: what the call promises
-- of a call that does this: its answer, the number and the record in it, and the slice at its exit
pub record Returns (l : LaidOut) (p : Passed) (exit : List ℤ) : Type 0 where
  pub answer : p ≡ passed_of l.outcome
  pub number : laid_number p.laid ≡ l.outcome.number
  pub at : laid_record p.laid ≡ l.outcome.at
  pub slice : exit ≡ l.slice

-- the call of one pass
abbrev pub Called : List ℕ → Bool → Memory → Bool → List ℤ → Passed → List ℤ → Type 0
Called text known m sizing out p exit = Returns (laid text known m sizing out) p exit

-- ---- RULES 10.3: how many controls there are
unfoldable pub controls : List Step → ℕ
controls [] = 0
controls (st ∷ rest) = widget_step st + controls rest
