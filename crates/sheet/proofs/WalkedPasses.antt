-- A pass as the code makes it is the rule's: the heading, the run over the steps, and what it comes to. Assumes nothing.
use Prim.Native.Nat.{ℕ, ◌+◌}
use mathlib.Core.Path.{◌≡◌, ap, sym, ◌∙◌, subst}
use mathlib.Core.Bool.{Bool, true, false}
use mathlib.Core.List.{List, []}
use borrow.Author.Tests.{eq-eqb, ne_eqb}
use lib.IntN.{ℤ}
use lib.ListN.{length}
use lib.Seq.{sets}
use Rattle.std.specs.Prelude.{Result, Ok, Err, IsErrAnd}
use Rattle.emath.specs.Steps.{tick}
use Rattle.emath.specs.Refusals.{number_of}
use Rattle.emath.specs.declared.Refusal.{Refusal}
use Rattle.placer.specs.Refusals.{placer_outcome}
use Rattle.emath.specs.declared.Vec2.{Vec2}
use Rattle.grid.specs.declared.Memory.{Memory}
use Rattle.placer.specs.declared.Placer.{Placer}
use Rattle.placer.specs.declared.PlacerAnswer.{PlacerAnswer}
use Rattle.records.specs.Headings.{heading_in}
use Rattle.records.specs.Sheets.{checked}
use Rattle.records.specs.declared.Heading.{Heading}
use Rattle.records.specs.declared.Step.{Step}
use Rattle.records.specs.Sheets.{Accepted, Refused}
use Rattle.sheet.specs.Pass.{Sheet, Ran, called, followed, run_from, headed, grid_set, plate_of, refused_at, outcome_of, begun, ran_with, pass}
use Rattle.sheet.specs.Texts.{sheet_in}
use Rattle.sheet.specs.Slices.{written, passed_of, Called, after_check, laid}
use Rattle.sheet.specs.Slices.{Passed}
use Rattle.sheet.specs.Implementation.Walks.{Run, Sets, ran_of, Walked, Answers, sheet_after}
use Rattle.sheet.proofs.Slices.{outcome-cells}
use Rattle.sheet.proofs.Returned as returned

-- ---- what a run comes to
-- the loop's, where it came to an end
pub run-answers : (grid : Bool) (m : Memory) (sp : Vec2) (n : ℕ) (q : Placer) (steps : List Step) (out : List ℤ) (r : Run) (p : Passed) (exit : List ℤ) → Walked sp n q steps out r exit
    → (r.plate ≡ plate_of (run_from tick sp n q steps).cells → p ≡ passed_of (outcome_of grid m (ran_of (run_from tick sp n q steps).cells r))) → Answers grid m (run_from tick sp n q steps) out p exit
run-answers grid m sp n q steps out r p exit w e = record { answer = e w.plate ∙ ap (λ (x : Ran). passed_of (outcome_of grid m x)) w.run; slice = w.slice }

-- what gives a placer
pub refused-sets : (r : Result Placer Refusal) (a : PlacerAnswer) (e : Refusal) → IsErrAnd r (λ d. d ≡ e) → a.number ≡ number_of e → Sets r a
refused-sets (Ok p) a e h k = absurd h
refused-sets (Err d) a e h k = k ∙ ap (λ x. number_of x) (sym h)

pub outcome-sets : (r : Result Placer Refusal) (given : Placer) (a : PlacerAnswer) → placer_outcome given r ≡ a → Sets r a
outcome-sets (Ok p) given a h = sym h
outcome-sets (Err e) given a h = ap (λ (x : PlacerAnswer). x.number) (sym h)

-- record n was refused
pub refused-answers : (grid : Bool) (m : Memory) (n : ℕ) (a : PlacerAnswer) (later : Ran) (out : List ℤ) (p : Passed) → (a.number ≡ 0 → ⊥)
    → p ≡ passed_of (refused_at a.number n [] m) → Answers grid m (followed n (called a) later) out p out
unfolding followed outcome_of written
refused-answers grid m n a later out p h e = record { answer = e ∙ rw (ne_eqb a.number 0 h, ne_eqb a.number 0 h); slice = rw (ne_eqb a.number 0 h) }

-- record n gave a placer, from which the pass went on
pub began-answers : (grid : Bool) (m : Memory) (n : ℕ) (a : PlacerAnswer) (later : Ran) (out : List ℤ) (p : Passed) (exit : List ℤ) → a.number ≡ 0
    → Answers grid m later out p exit → Answers grid m (followed n (called a) later) out p exit
unfolding followed
began-answers grid m n a later out p exit h x = record { answer = x.answer ∙ rw (eq-eqb a.number 0 h); slice = x.slice ∙ rw (eq-eqb a.number 0 h) }

-- ---- the records after H
module _ (k : ℕ) (s : Sheet) (known : Bool) (m : Memory) (sizing : Bool) (p : Placer) where
  with-grid : s.heading.has_grid ≡ true
      → ran_with k s known m sizing p ≡ followed s.heading.records (called (grid_set s.heading known m sizing p)) (run_from k s.heading.spacing (s.heading.records + 1) (grid_set s.heading known m sizing p).placer s.steps)
  unfolding ran_with begun
  with-grid g = rw g

  without-grid : s.heading.has_grid ≡ false → ran_with k s known m sizing p ≡ run_from k s.heading.spacing (s.heading.records + 1) p s.steps
  unfolding ran_with
  without-grid g = rw g

pub with-grid-answers : (s : Sheet) (known : Bool) (m : Memory) (sizing : Bool) (q : Placer) (out : List ℤ) (p : Passed) (exit : List ℤ) → s.heading.has_grid ≡ true
    → Answers s.heading.has_grid m (followed s.heading.records (called (grid_set s.heading known m sizing q)) (run_from tick s.heading.spacing (s.heading.records + 1) (grid_set s.heading known m sizing q).placer s.steps)) out p exit
    → Answers s.heading.has_grid m (ran_with tick s known m sizing q) out p exit
with-grid-answers s known m sizing q out p exit g x = subst (λ (r : Ran). Answers s.heading.has_grid m r out p exit) (sym (with-grid tick s known m sizing q g)) x

pub without-grid-answers : (s : Sheet) (known : Bool) (m : Memory) (sizing : Bool) (q : Placer) (out : List ℤ) (p : Passed) (exit : List ℤ) → s.heading.has_grid ≡ false
    → Answers s.heading.has_grid m (run_from tick s.heading.spacing (s.heading.records + 1) q s.steps) out p exit → Answers s.heading.has_grid m (ran_with tick s known m sizing q) out p exit
without-grid-answers s known m sizing q out p exit g x = subst (λ (r : Ran). Answers s.heading.has_grid m r out p exit) (sym (without-grid tick s known m sizing q g)) x

-- ---- the whole pass
pub pass-answers : (s : Sheet) (known : Bool) (m : Memory) (sizing : Bool) (out : List ℤ) (p : Passed) (exit : List ℤ)
    → Answers s.heading.has_grid m (followed 1 (called (headed tick s.heading)) (ran_with tick s known m sizing (headed tick s.heading).placer)) out p exit
    → (p ≡ passed_of (pass tick s known m sizing)) × (exit ≡ sets out 0 (written (pass tick s known m sizing).cells))
unfolding pass begun
pass-answers s known m sizing out p exit x =
    (x.answer, x.slice ∙ ap (λ cs. sets out 0 (written cs)) (sym (outcome-cells s.heading.has_grid m (followed 1 (called (headed tick s.heading)) (ran_with tick s known m sizing (headed tick s.heading).placer)))))

-- a text that was accepted
pub as_called : (text : List ℕ) (known : Bool) (m : Memory) (sizing : Bool) (out : List ℤ) (h : Heading) (p : Passed) (exit : List ℤ) (r w : ℕ) → checked text (length out) ≡ Accepted r w → h ≡ heading_in text
    → (p ≡ passed_of (pass tick (sheet_after h text) known m sizing)) × (exit ≡ sets out 0 (written (pass tick (sheet_after h text) known m sizing).cells)) → Called text known m sizing out p exit
unfolding laid after_check
as_called text known m sizing out h p exit r w e eh x =
    let y : (p ≡ passed_of (pass tick (sheet_in text) known m sizing)) × (exit ≡ sets out 0 (written (pass tick (sheet_in text) known m sizing).cells)) = rw eh at x in
    returned.called text known m sizing out p exit (y.0 ∙ rw e) (y.1 ∙ rw e)

-- and one that was refused
pub as-refused : (text : List ℕ) (known : Bool) (m : Memory) (sizing : Bool) (out : List ℤ) (p : Passed) (n at : ℕ) → checked text (length out) ≡ Refused n at → p ≡ passed_of (refused_at n at [] m)
    → Called text known m sizing out p out
unfolding laid after_check
as-refused text known m sizing out p n at e x = returned.called text known m sizing out p out (x ∙ rw e) (rw e)
