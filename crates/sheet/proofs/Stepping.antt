-- A record on a placer without a fault: the number that the code works out for a W is the rule's, and an accepted record leaves a placer
-- without a fault. Assumes nothing.
use mathlib.Core.Path.{◌≡◌, refl, sym, ap, ◌∙◌}
use mathlib.Core.Bool.{Bool, true, false, cond, ◌&&◌, true≢false}
use Prim.Native.Nat.{ℕ}
use native.Mathlib.Omega.{arith}
use lib.Dec.{eqb}
use lib.ListN.{length}
use borrow.Author.Tests.{eq-eqb, eqb-true, ne_eqb}
use Rattle.emath.specs.Steps.{tick}
use Rattle.emath.specs.Domain.{within, edges_of}
use Rattle.emath.specs.Refusals.{lesser, least, or_else, size_fault, pair_fault, edges_fault, outside}
use Rattle.emath.proofs.Tests.{both}
use Rattle.emath.proofs.Refusals.{lesser-none, zero-lesser, or-none, edges_fit, no-fault}
use Rattle.emath.specs.declared.Rect.{Rect}
use Rattle.emath.specs.declared.Vec2.{Vec2}
use Rattle.placer.specs.Rules.{next_space, justify_and_align, advance_after_rects}
use Rattle.placer.specs.Refusals.{placer_fault, advance_fault, changed_placer}
use Rattle.placer.specs.Operations.{checked_new, checked_set_grid, checked_advance_cursor, checked_end_row, checked_set_row_height, checked_set_max_width, checked_set_max_height, checked_set_min_width, checked_set_min_height}
use Rattle.placer.specs.Implementation.Lent.{past_part}
use Rattle.placer.proofs.Answers.{changed-accepted}
use Rattle.placer.proofs.Unfaulted.{past-fault}
use Rattle.placer.specs.declared.Placer.{Placer}
use Rattle.placer.specs.declared.PlacerAnswer.{PlacerAnswer}
use Rattle.layout.specs.declared.Layout.{Layout}
use Rattle.grid.specs.declared.Memory.{Memory}
use Rattle.records.specs.declared.Heading.{Heading}
use Rattle.records.specs.declared.Step.{Step}
use Rattle.records.specs.declared.Step.TheVariants.{Widget, Space, RowHeight, MaxWidth, MaxHeight, MinWidth, MinHeight, RowEnd}
use Rattle.records.specs.Records.{Record}
use Rattle.std.specs.Prelude.{None, Some}
use Rattle.sheet.specs.Pass.{cell_of, widget_fault, widget_step, grid_of, grid_set}
use Rattle.sheet.proofs.Runs.{widget-placed}
use Rattle.sheet.specs.Implementation.Calls.{given_number, answered_number, placement, step_result, record_result}

-- ---- 9: what is within the limit has no fault, and what is not has one
pub answered-is : (f w : Rect) (past : ℕ) (b : Bool) → edges_of within f && (edges_of within w && eqb past 0) ≡ b → cond b 0 9 ≡ answered_number f w past
unfolding answered_number least
answered-is f w past true h =
    let a = both (edges_of within f) (edges_of within w && eqb past 0) h in
    let b = both (edges_of within w) (eqb past 0) a.1 in
    rw (← no-fault f a.0, ← no-fault w b.0, eqb-true past 0 b.1) (unfold lesser outside in refl)
answered-is f w past false h = go (eqb (lesser (edges_fault f) (lesser (edges_fault w) past)) 0) refl
  where
    go : (t : Bool) → eqb (lesser (edges_fault f) (lesser (edges_fault w) past)) 0 ≡ t → 9 ≡ outside (lesser (edges_fault f) (lesser (edges_fault w) past))
    go true e =
        let a = lesser-none (edges_fault f) (lesser (edges_fault w) past) (eqb-true (lesser (edges_fault f) (lesser (edges_fault w) past)) 0 e) in
        let b = lesser-none (edges_fault w) past a.1 in
        absurd (true≢false (rw (edges_fit f a.0, edges_fit w b.0, eq-eqb past 0 b.1) at h))
    go false e = unfold outside in rw e

-- ---- a W
module _ (p : Placer) (sp s : Vec2) (none : placer_fault p ≡ 0) (cols : length p.grid.curr_state.col_widths ≡ 32) (rows : length p.grid.curr_state.row_heights ≡ 128) where
  -- where none of 4 to 8 applies there is room for the W
  given-room : given_number p sp s ≡ 0 → advance_fault p ≡ 0
  unfolding given_number least
  given-room h = (lesser-none (pair_fault sp.x sp.y) (advance_fault p) (lesser-none (size_fault s) _ h).1).1

  number_is : (f w : Rect) → or_else (given_number p sp s) (answered_number f w (past_part p (advance_after_rects p f w sp).region w)) ≡ widget_fault sp p s (record { frame = f; widget = w })
  number_is f w = whole (go (eqb (given_number p sp s) 0) refl)
    where
      go : (b : Bool) → eqb (given_number p sp s) 0 ≡ b
          → or_else (given_number p sp s) (answered_number f w (past_part p (advance_after_rects p f w sp).region w)) ≡ or_else (given_number p sp s) (answered_number f w (placer_fault (advance_after_rects p f w sp)))
      go true e = rw (past-fault p f w sp none cols rows (given-room (eqb-true (given_number p sp s) 0 e)))
      go false e = unfold or_else in rw e

      whole : or_else (given_number p sp s) (answered_number f w (past_part p (advance_after_rects p f w sp).region w)) ≡ or_else (given_number p sp s) (answered_number f w (placer_fault (advance_after_rects p f w sp)))
          → or_else (given_number p sp s) (answered_number f w (past_part p (advance_after_rects p f w sp).region w)) ≡ widget_fault sp p s (record { frame = f; widget = w })
      whole h = h ∙ (unfold widget_fault given_number answered_number least in rw (none, zero-lesser))

  module _ (f w : Rect) (ef : f ≡ next_space tick p s sp) (ew : w ≡ justify_and_align tick p f s) (n : ℕ) (en : n ≡ or_else (given_number p sp s) (answered_number f w (past_part p (advance_after_rects p f w sp).region w))) where
    fault : n ≡ widget_fault sp p s (cell_of tick sp p s)
    fault = en ∙ number_is f w ∙ rw (ew, ef)

    pub placement-refused : (n ≡ 0 → ⊥) → record { number = n; placer = p; placed = 1; frame = f; widget = w } ≡ placement p sp s
    unfolding placement widget_step
    placement-refused h = rw (← fault, ne_eqb n 0 h, ew, ef)

    pub placement-number : (placement p sp s).number ≡ n
    unfolding placement widget_step
    placement-number = sym fault

    pub placement-accepted : (q : Placer) → n ≡ 0 → q ≡ advance_after_rects p f w sp → record { number = n; placer = q; placed = 1; frame = f; widget = w } ≡ placement p sp s
    unfolding placement widget_step
    placement-accepted q h eq = rw (← fault, eq-eqb n 0 h, eq, ew, ef)

-- ---- no fault after an accepted record
widget-none : (p : Placer) (sp s : Vec2) → (widget_step sp p s (cell_of tick sp p s)).number ≡ 0 → placer_fault (widget_step sp p s (cell_of tick sp p s)).placer ≡ 0
widget-none p sp s h = let c = widget-placed sp p s (cell_of tick sp p s) h in rw c.placer c.after

step-none : (p : Placer) (sp : Vec2) (st : Step) → (step_result p sp st).number ≡ 0 → placer_fault (step_result p sp st).placer ≡ 0
unfolding step_result placement checked_advance_cursor checked_end_row checked_set_row_height checked_set_max_width checked_set_max_height checked_set_min_width checked_set_min_height
step-none p sp (Widget x y) h = widget-none p sp (record { x = x; y = y }) h
step-none p sp (Space a) h = let c = changed-accepted _ p _ h in rw c.2 c.1
step-none p sp (RowHeight a) h = let c = changed-accepted _ p _ h in rw c.2 c.1
step-none p sp (MaxWidth a) h = let c = changed-accepted _ p _ h in rw c.2 c.1
step-none p sp (MaxHeight a) h = let c = changed-accepted _ p _ h in rw c.2 c.1
step-none p sp (MinWidth a) h = let c = changed-accepted _ p _ h in rw c.2 c.1
step-none p sp (MinHeight a) h = let c = changed-accepted _ p _ h in rw c.2 c.1
step-none p sp RowEnd h = let c = changed-accepted _ p _ h in rw c.2 c.1

pub moved_none : (p : Placer) (sp : Vec2) (r : Record) → (record_result p sp r).number ≡ 0 → placer_fault (record_result p sp r).placer ≡ 0
unfolding record_result
moved_none p sp (Some st) h = step-none p sp st h
moved_none p sp None h = absurd (let z : ◌≡◌ {A = ℕ} 1 0 = h in omega arith)

-- ---- nor after H or G
changed-none : (n : ℕ) (given new : Placer) (a : PlacerAnswer) → a ≡ changed_placer n given new → a.number ≡ 0 → placer_fault a.placer ≡ 0
changed-none n given new a e h = let c = changed-accepted n given new (ap (λ (x : PlacerAnswer). x.number) (sym e) ∙ h) in rw (e, c.2) c.1

pub headed-none : (k : ℕ) (r : Rect) (l : Layout) (a : PlacerAnswer) → a ≡ checked_new k r l → a.number ≡ 0 → placer_fault a.placer ≡ 0
unfolding checked_new
headed-none k r l a e h = changed-none _ _ _ a e h

pub grid-set-none : (h : Heading) (known : Bool) (m : Memory) (sizing : Bool) (p : Placer) (a : PlacerAnswer) → a ≡ grid_set h known m sizing p → a.number ≡ 0 → placer_fault a.placer ≡ 0
unfolding grid_set checked_set_grid
grid-set-none h known m sizing p a e z =
    let b = checked_set_grid p (grid_of h known m sizing p).grid in
    let n = (or-none (grid_of h known m sizing p).number b.number (ap (λ (x : PlacerAnswer). x.number) (sym e) ∙ z)).1 in
    rw e (changed-none _ _ _ b refl n)
