-- What an accepted call shows: its answer is that of the text's pass, and the slice holds a cell for each W. Assumes nothing.
use Prim.Native.Nat.{ℕ, ◌+◌, ◌*◌, ◌≤◌}
use mathlib.Core.Path.{◌≡◌, refl, ap, sym, ◌∙◌}
use mathlib.Core.Bool.{Bool, true, false, cond}
use mathlib.Core.List.{List, [], ◌∷◌, ◌++◌}
use native.Mathlib.Omega.{arith}
use lib.Dec.{eqb}
use borrow.Author.Tests.{eqb-true}
use lib.IntN.{ℤ}
use lib.ListN.{length, drop, length-append}
use Rattle.emath.specs.Steps.{tick}
use Rattle.emath.specs.declared.Vec2.{Vec2}
use Rattle.grid.specs.declared.Memory.{Memory}
use Rattle.placer.specs.declared.Placer.{Placer}
use Rattle.records.specs.Sheets.{checked}
use Rattle.records.specs.Sheets.{Checked}
use Rattle.records.specs.Sheets as checked-of
use Rattle.records.specs.declared.Step.{Step}
use Rattle.records.proofs.Checks.{some_number}
use Rattle.sheet.specs.Slices.{Accepted, Refused}
use Rattle.sheet.specs.Slices.{Passed}
use Rattle.sheet.specs.Pass.{Sheet, Cell, Ran, called, stepped, followed, run_from, headed, grid_set, begun, ran_with, pass}
use Rattle.sheet.specs.Texts.{sheet_in}
use Rattle.sheet.specs.Slices.{Called, controls, written, laid_of, after_check, laid}
use Rattle.sheet.proofs.Runs.{going, run-goes}
use Rattle.sheet.proofs.Passes.{given}
use Rattle.sheet.proofs.Slices.{one_cell, slice_is}

-- ---- an accepted pass has a cell for each W
run-all : (k : ℕ) (sp : Vec2) (n : ℕ) (p : Placer) (steps : List Step) → (run_from k sp n p steps).number ≡ 0 → controls steps ≤ length (run_from k sp n p steps).cells
unfolding controls
run-all k sp n p [] h = omega arith
run-all k sp n p (st ∷ rest) h =
    let g = run-goes k sp n p st rest h in
    let e = ap (λ (cs : List Cell). length cs) g.cells in
    let r = run-all k sp (n + 1) (stepped k sp p st).placer rest g.rest in
    omega (arith, e, r, one_cell k sp p st, length-append (stepped k sp p st).cells (run_from k sp (n + 1) (stepped k sp p st).placer rest).cells)

ran-all : (k : ℕ) (s : Sheet) (known : Bool) (m : Memory) (sizing : Bool) (p : Placer) → (ran_with k s known m sizing p).number ≡ 0 → controls s.steps ≤ length (ran_with k s known m sizing p).cells
unfolding ran_with begun
ran-all k s known m sizing p h = go s.heading.has_grid h
  where
    later : Ran
    later = run_from k s.heading.spacing (s.heading.records + 1) (grid_set s.heading known m sizing p).placer s.steps

    go : (b : Bool) → (cond b (followed s.heading.records (called (grid_set s.heading known m sizing p)) later) (run_from k s.heading.spacing (s.heading.records + 1) p s.steps)).number ≡ 0
        → controls s.steps ≤ length (cond b (followed s.heading.records (called (grid_set s.heading known m sizing p)) later) (run_from k s.heading.spacing (s.heading.records + 1) p s.steps)).cells
    go true h =
        let g = going s.heading.records (called (grid_set s.heading known m sizing p)) later h in
        let r = run-all k s.heading.spacing (s.heading.records + 1) (grid_set s.heading known m sizing p).placer s.steps g.rest in
        omega (arith, r, ap (λ (cs : List Cell). length cs) g.cells)
    go false h = run-all k s.heading.spacing (s.heading.records + 1) p s.steps h

pub pass_all : (k : ℕ) (s : Sheet) (known : Bool) (m : Memory) (sizing : Bool) → (pass k s known m sizing).number ≡ 0 → controls s.steps ≤ length (pass k s known m sizing).cells
unfolding pass begun
pass_all k s known m sizing h =
    let later = ran_with k s known m sizing (headed k s.heading).placer in
    let o = given s.heading.has_grid m (followed 1 (called (headed k s.heading)) later) h in
    let g = going 1 (called (headed k s.heading)) later o.run in
    let r = ran-all k s known m sizing (headed k s.heading).placer g.rest in
    omega (arith, r, ap (λ (cs : List Cell). length cs) o.cells, ap (λ (cs : List Cell). length cs) g.cells)

-- ---- what an accepted call shows
pub record Shown (text : List ℕ) (known : Bool) (m : Memory) (sizing : Bool) (p : Passed) (exit : List ℤ) : Type 0 where
  pub number : (pass tick (sheet_in text) known m sizing).number ≡ 0
  pub plate : p.plate ≡ (pass tick (sheet_in text) known m sizing).plate
  pub memory : p.memory ≡ (pass tick (sheet_in text) known m sizing).memory
  pub others : List ℤ
  pub slice : exit ≡ written (pass tick (sheet_in text) known m sizing).cells ++ others

pub no_number : (n at : ℕ) → laid_of n at ≡ Accepted → n ≡ 0
unfolding laid_of
no_number n at h = go (eqb n 0) refl h
  where
    go : (b : Bool) → eqb n 0 ≡ b → cond b Accepted (Refused n at) ≡ Accepted → n ≡ 0
    go true e h = eqb-true n 0 e
    go false e h = let o : ◌≡◌ {A = ℕ} 0 1 = cc in absurd (omega arith)

module _ (text : List ℕ) (known : Bool) (m : Memory) (sizing : Bool) (out : List ℤ) (p : Passed) (exit : List ℤ) where
  pub shown : Called text known m sizing out p exit → p.laid ≡ Accepted → Shown text known m sizing p exit
  unfolding laid after_check
  shown c l = go (checked text (length out)) refl (no_number _ _ (ap (λ (x : Passed). x.laid) (sym c.answer) ∙ l))
    where
      go : (k : Checked) → checked text (length out) ≡ k → (after_check k text known m sizing out).outcome.number ≡ 0 → Shown text known m sizing p exit
      go (checked-of.Refused n at) e h = absurd (omega (arith, h, some_number text (length out) n at e))
      go (checked-of.Accepted r w) e h = record {
        number = h;
        plate = ap (λ (x : Passed). x.plate) c.answer ∙ rw e;
        memory = ap (λ (x : Passed). x.memory) c.answer ∙ rw e;
        others = drop (8 * length (pass tick (sheet_in text) known m sizing).cells) out;
        slice = c.slice ∙ slice_is text known m sizing out r w e;
      }
