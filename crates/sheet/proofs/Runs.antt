-- An accepted run: each of its records is accepted, and so is the rest, from the placer that the record leaves. Assumes nothing.
use Prim.Native.Nat.{ℕ, suc, ◌+◌}
use mathlib.Core.Path.{◌≡◌, refl, sym, ◌∙◌}
use mathlib.Core.Bool.{Bool, true, false, true≢false}
use mathlib.Core.List.{List, ◌∷◌, ◌++◌}
use native.Mathlib.Omega.{arith}
use lib.Dec.{eqb}
use borrow.Author.Tests.{eqb-true, eq-eqb, ne_eqb}
use Rattle.emath.specs.Refusals.{least, size_fault, pair_fault, edges_fault}
use Rattle.emath.proofs.Refusals.{lesser-none, or-none, outside-none}
use Rattle.emath.specs.declared.Vec2.{Vec2}
use Rattle.placer.specs.Refusals.{placer_fault, advance_fault}
use Rattle.placer.specs.declared.Placer.{Placer}
use Rattle.records.specs.declared.Step.{Step}
use Rattle.sheet.specs.Pass.{Cell, Stepped, Ran, stepped, followed, run_from, past_cell, widget_fault, widget_step}

pub some : (n : ℕ) → eqb (suc n) 0 ≡ false
some n = ne_eqb (suc n) 0 (λ (e : suc n ≡ 0). absurd (omega arith))

-- ---- one record and the rest
pub record Going (a : Stepped) (later whole : Ran) : Type 0 where
  pub this : a.number ≡ 0
  pub rest : later.number ≡ 0
  pub cells : whole.cells ≡ a.cells ++ later.cells
  pub placer : whole.placer ≡ later.placer

pub going : (n : ℕ) (a : Stepped) (later : Ran) → (followed n a later).number ≡ 0 → Going a later (followed n a later)
unfolding followed
going n a later h = go (eqb a.number 0) refl
  where
    go : (b : Bool) → eqb a.number 0 ≡ b → Going a later (followed n a later)
    go true e = record { this = eqb-true a.number 0 e; rest = rw e at h; cells = rw e; placer = rw e }
    go false e = let z : a.number ≡ 0 = rw e at h in absurd (true≢false (sym (sym e ∙ eq-eqb a.number 0 z)))

pub run-goes : (k : ℕ) (sp : Vec2) (n : ℕ) (p : Placer) (st : Step) (rest : List Step) → (run_from k sp n p (st ∷ rest)).number ≡ 0
    → Going (stepped k sp p st) (run_from k sp (n + 1) (stepped k sp p st).placer rest) (run_from k sp n p (st ∷ rest))
unfolding run_from
run-goes k sp n p st rest h = going n (stepped k sp p st) (run_from k sp (n + 1) (stepped k sp p st).placer rest) h

-- ---- an accepted W
pub record Placed (sp : Vec2) (p : Placer) (s : Vec2) (c : Cell) : Type 0 where
  pub before : placer_fault p ≡ 0
  pub size : size_fault s ≡ 0
  pub place : advance_fault p ≡ 0
  pub frame : edges_fault c.frame ≡ 0
  pub widget : edges_fault c.widget ≡ 0
  pub after : placer_fault (past_cell sp p c) ≡ 0
  pub placer : (widget_step sp p s c).placer ≡ past_cell sp p c

pub widget-placed : (sp : Vec2) (p : Placer) (s : Vec2) (c : Cell) → (widget_step sp p s c).number ≡ 0 → Placed sp p s c
unfolding widget_step widget_fault least
widget-placed sp p s c h =
    let o = or-none _ _ h in
    let a = lesser-none (placer_fault p) _ o.0 in
    let b = lesser-none (size_fault s) _ a.1 in
    let d = lesser-none (pair_fault sp.x sp.y) (advance_fault p) b.1 in
    let f = lesser-none (edges_fault c.frame) _ (outside-none _ o.1) in
    let w = lesser-none (edges_fault c.widget) (placer_fault (past_cell sp p c)) f.1 in
    record {
      before = a.0;
      size = b.0;
      place = d.1;
      frame = f.0;
      widget = w.0;
      after = w.1;
      placer = rw h;
    }
