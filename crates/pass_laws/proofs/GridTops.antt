-- Whatever memory a grid was given, through every accepted record min_rect, max_rect and the cursor's top stay whole, and so do this pass's
-- heights. For steps of 1 to 1/64 point. Assumes nothing.
use Prim.Native.Nat.{ℕ, ◌≤◌}
use mathlib.Core.Path.{◌≡◌, ap, sym, ◌∙◌, subst}
use mathlib.Core.Bool.{true}
use native.Mathlib.Omega.{arith}
use Rattle.emath.specs.Refusals.{when, lesser, least, length_fault, edges_fault}
use Rattle.emath.proofs.Refusals.{lesser-none}
use Rattle.emath.specs.declared.Rect.{Rect}
use Rattle.emath.specs.declared.Vec2.{Vec2}
use Rattle.region.specs.Steps.{WholeRect}
use Rattle.layout.specs.declared.Layout.{Layout}
use Rattle.grid.specs.Refusals.{fits_grid}
use Rattle.grid.proofs.Cells.{next-cell-whole, align-size-within-rect-whole}
use Rattle.grid.proofs.Advances.{Sound}
use Rattle.grid.specs.declared.GridLayout.{GridLayout}
use Rattle.placer.specs.Rules.{advance_cursor, set_row_height, set_max_width, set_max_height, set_min_width, set_min_height}
use Rattle.placer.specs.Refusals.{placer_fault, changed_placer}
use Rattle.placer.specs.Operations.{checked_advance_cursor, checked_set_row_height, checked_end_row, checked_set_max_width, checked_set_max_height, checked_set_min_width, checked_set_min_height}
use Rattle.placer.specs.Steps.{WholeDown, WholeTops}
use Rattle.placer.proofs.Answers.{changed-accepted}
use Rattle.placer.proofs.WholeGrids.{advance-after-rects-tops, end-row-tops, set-max-width-tops, set-max-height-tops}
use Rattle.placer.proofs.WholeTopsCalls.{set-min-width-tops, set-min-height-tops, set-row-height-tops}
use Rattle.placer.proofs.WholeHeights.{advance-after-rects-down, end-row-down}
use Rattle.placer.specs.declared.Placer.{Placer}
use Rattle.records.specs.declared.Step.{Step}
use Rattle.sheet.specs.Pass.{stepped, cell_of, widget_step}
use Rattle.pass_laws.proofs.GridMoves.{GridCell, frame_is, widget-is, row-ended, LeftAlone, Other, left_alone, space, row_height, max_width, max_height, min_width, min_height}
use Rattle.pass_laws.proofs.ColumnRuns.{advanced-sound, ended_is}

-- what a grid is like where a run is
pub record OnSteps (k : ℕ) (p : Placer) : Type 0 where
  pub grid : p.has_grid ≡ true
  pub fits : fits_grid p.layout.main_dir ≡ true
  pub sound : Sound p.grid.curr_state
  pub down : WholeDown k p.grid
  pub tops : WholeTops k p

same_way : (p q : Placer) → q.layout ≡ p.layout → fits_grid p.layout.main_dir ≡ true → fits_grid q.layout.main_dir ≡ true
same_way p q e h = ap (λ (l : Layout). fits_grid l.main_dir) e ∙ h

module _ (k : ℕ) (l : k ≤ 6) (sp : Vec2) (p : Placer) (i : OnSteps k p) where
  -- ---- a W: its rectangles are whole, and so is what it leaves
  module _ (s : Vec2) (a : GridCell k sp p s) where
    pub frame-whole : WholeRect k (cell_of k sp p s).frame
    frame-whole =
        let e = frame_is k sp p s i.grid in
        subst (WholeRect k) (sym e) (next-cell-whole k (omega arith) p.grid p.region.cursor s (ap (λ (r : Rect). edges_fault r) (sym e) ∙ a.placed.frame))

    pub widget-whole : WholeRect k (cell_of k sp p s).widget
    widget-whole =
        let e = widget-is k sp p s i.grid in
        subst (WholeRect k) (sym e) (align-size-within-rect-whole k (omega arith) s _ (ap (λ (r : Rect). edges_fault r) (sym e) ∙ a.placed.widget))

    pub control-on-steps : OnSteps k (widget_step sp p s (cell_of k sp p s)).placer
    control-on-steps =
        let c = cell_of k sp p s in
        let q = (widget_step sp p s c).placer in
        let e = a.placed.placer in
        record {
          grid = a.still;
          fits = same_way p q a.layout i.fits;
          sound = subst (λ (g : GridLayout). Sound g.curr_state) (sym a.grid) (advanced-sound p.grid p.region.cursor c.widget a.col a.row i.sound);
          down = subst (λ (x : Placer). WholeDown k x.grid) (sym e) (advance-after-rects-down k l p c.frame c.widget sp i.grid i.sound i.down widget-whole a.placed.after);
          tops = subst (WholeTops k) (sym e) (advance-after-rects-tops k l p i.fits i.tops c.frame c.widget sp i.grid frame-whole a.placed.after);
        }

  -- ---- an E
  pub row-on-steps : (checked_end_row p sp).number ≡ 0 → OnSteps k (checked_end_row p sp).placer
  row-on-steps n =
      let a = row-ended sp p i.grid n in
      let q = (checked_end_row p sp).placer in
      record {
        grid = a.still;
        fits = same_way p q a.layout i.fits;
        sound = subst (λ (g : GridLayout). Sound g.curr_state) (sym a.grid) (subst Sound (sym (ended_is p.grid p.region.cursor).0) i.sound);
        down = subst (λ (x : Placer). WholeDown k x.grid) (sym a.is) (end-row-down k l p sp i.grid i.down);
        tops = subst (WholeTops k) (sym a.is) (end-row-tops k l p i.fits i.tops sp i.grid i.down a.fault);
      }

  -- ---- the others
  alone-on-steps : (q : Placer) → LeftAlone p q → WholeTops k q → OnSteps k q
  alone-on-steps q a t = record {
    grid = a.still ∙ i.grid;
    fits = same_way p q a.layout i.fits;
    sound = subst (λ (g : GridLayout). Sound g.curr_state) (sym a.grid) i.sound;
    down = subst (WholeDown k) (sym a.grid) i.down;
    tops = t;
  }

  tops-by : (n : ℕ) (q : Placer) → (placer_fault q ≡ 0 → WholeTops k q) → (changed_placer n p q).number ≡ 0 → WholeTops k (changed_placer n p q).placer
  tops-by n q f h = let c = changed-accepted n p q h in subst (WholeTops k) (sym c.2) (f c.1)

  other-tops : {st : Step} → Other st → (stepped k sp p st).number ≡ 0 → WholeTops k (stepped k sp p st).placer
  unfolding stepped checked_advance_cursor checked_set_row_height checked_set_max_width checked_set_max_height checked_set_min_width checked_set_min_height least
  other-tops (space {a = a}) h = absurd (no-space (changed-accepted _ p (advance_cursor p a) h).0)
    where
      no-space : lesser (placer_fault p) (lesser (length_fault a) (when p.has_grid 7)) ≡ 0 → ⊥
      no-space z = omega (arith, rw i.grid at (lesser-none (length_fault a) (when p.has_grid 7) (lesser-none (placer_fault p) _ z).1).1)
  other-tops (row_height {h = v}) h = tops-by _ (set_row_height p v) (λ z. set-row-height-tops k l p i.fits i.tops v) h
  other-tops (max_width {w = w}) h = tops-by _ (set_max_width k p w) (set-max-width-tops k l p i.fits i.tops w) h
  other-tops (max_height {h = v}) h = tops-by _ (set_max_height k p v) (set-max-height-tops k l p i.fits i.tops v) h
  other-tops (min_width {w = w}) h = tops-by _ (set_min_width k p w) (set-min-width-tops k l p i.fits i.tops w) h
  other-tops (min_height {h = v}) h = tops-by _ (set_min_height k p v) (set-min-height-tops k l p i.fits i.tops v) h

  pub other-on-steps : {st : Step} → Other st → (stepped k sp p st).number ≡ 0 → OnSteps k (stepped k sp p st).placer
  other-on-steps {st} o n = alone-on-steps (stepped k sp p st).placer (left_alone k sp p o n) (other-tops o n)
