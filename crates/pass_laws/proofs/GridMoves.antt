-- What an accepted record does to a grid: a W notes its control's width, exactly, and its rectangle's height, and goes a column on; an E
-- goes to the next row; every other record leaves the grid alone. Assumes nothing.
use Prim.Native.Nat.{ℕ, ◌≤◌, ◌<◌}
use mathlib.Core.Path.{◌≡◌, refl, ap, ◌∙◌}
use mathlib.Core.Bool.{Bool, true, false, cond, ◌&&◌}
use native.Mathlib.Omega.{arith}
use lib.Dec.{leb}
use borrow.Author.Tests.{leb-false}
use lib.Ieee.{Float, le}
use Rattle.emath.specs.Rectangles.{zero_f, width}
use Rattle.emath.specs.Refusals.{when, least, pair_fault}
use Rattle.emath.specs.Steps.{Edge}
use Rattle.emath.proofs.Refusals.{lesser-none}
use Rattle.emath.proofs.Tests.{is_lt}
use Rattle.emath.specs.declared.Rect.{Rect}
use Rattle.emath.specs.declared.Vec2.{Vec2}
use Rattle.grid.specs.Grids as grid-rules
use Rattle.grid.specs.Grids.{advanced, row_ended}
use Rattle.grid.proofs.Cells.{cell-width}
use Rattle.placer.specs.Rules.{next_space, justify_and_align, advance_cursor, moved_past, advance_after_rects, expand_to_include_rect, set_cursor, end_row, set_row_height, set_max_width, set_max_height, set_min_width, set_min_height, grown_across, grown_down, expand_to_include_x, expand_to_include_y}
use Rattle.placer.specs.Refusals.{placer_fault, advance_fault, end_row_fault, changed_placer}
use Rattle.placer.specs.Operations.{checked_advance_cursor, checked_end_row, checked_set_row_height, checked_set_max_width, checked_set_max_height, checked_set_min_width, checked_set_min_height}
use Rattle.placer.proofs.Answers.{changed-accepted}
use Rattle.placer.specs.declared.Placer.{Placer}
use Rattle.records.specs.declared.Step.{Step}
use Rattle.records.specs.declared.Step.TheVariants.{Space, RowHeight, MaxWidth, MaxHeight, MinWidth, MinHeight}
use Rattle.sheet.specs.Pass.{Cell, stepped, cell_of, past_cell, widget_step}
use Rattle.sheet.proofs.Runs.{Placed, widget-placed}

-- ---- W
-- 8 is not answered: there is room
room : (b : Bool) (n m : ℕ) → b ≡ true → when (b && leb n m) 8 ≡ 0 → m < n
room b n m e h = leb-false n m (go (leb n m) (rw e at h))
  where
    go : (t : Bool) → when t 8 ≡ 0 → t ≡ false
    go true z = absurd (omega (arith, z))
    go false z = refl

pub room-there : (p : Placer) → p.has_grid ≡ true → advance_fault p ≡ 0 → (p.grid.col < 32) × (p.grid.row < 128)
unfolding advance_fault least
room-there p g h =
    let e = lesser-none (when (p.has_grid && leb 32 p.grid.col) 8) (when (p.has_grid && leb 128 p.grid.row) 8) h in
    (room p.has_grid 32 p.grid.col g e.0, room p.has_grid 128 p.grid.row g e.1)

-- in a grid the frame is the next cell, and the widget is aligned in it
pub frame_is : (k : ℕ) (sp : Vec2) (p : Placer) (s : Vec2) → p.has_grid ≡ true → (cell_of k sp p s).frame ≡ grid-rules.next_cell k p.grid p.region.cursor s
unfolding next_space
frame_is k sp p s g = rw g

pub widget-is : (k : ℕ) (sp : Vec2) (p : Placer) (s : Vec2) → p.has_grid ≡ true → (cell_of k sp p s).widget ≡ grid-rules.align_size_within_rect k s (grid-rules.next_cell k p.grid p.region.cursor s)
unfolding next_space justify_and_align
widget-is k sp p s g = rw g

-- the grid after it
pub grid-past : (sp : Vec2) (p : Placer) (c : Cell) → p.has_grid ≡ true → p.grid.col < 32 → p.grid.row < 128 → (past_cell sp p c).grid ≡ (advanced p.grid p.region.cursor c.widget).grid
unfolding advance_after_rects moved_past expand_to_include_rect grid-rules.advance
grid-past sp p c g i j = rw (g, is_lt p.grid.col 32 i, is_lt p.grid.row 128 j)

pub still-grid : (sp : Vec2) (p : Placer) (c : Cell) → p.has_grid ≡ true → (past_cell sp p c).has_grid ≡ true
unfolding advance_after_rects moved_past expand_to_include_rect
still-grid sp p c g = rw g

same_layout : (sp : Vec2) (p : Placer) (c : Cell) → p.has_grid ≡ true → (past_cell sp p c).layout ≡ p.layout
unfolding advance_after_rects moved_past expand_to_include_rect set_cursor
same_layout sp p c g = rw g

-- an accepted W of a grid
pub record GridCell (k : ℕ) (sp : Vec2) (p : Placer) (s : Vec2) : Type 0 where
  pub col : p.grid.col < 32
  pub row : p.grid.row < 128
  pub placed : Placed sp p s (cell_of k sp p s)
  pub still : (widget_step sp p s (cell_of k sp p s)).placer.has_grid ≡ true
  pub layout : (widget_step sp p s (cell_of k sp p s)).placer.layout ≡ p.layout
  pub grid : (widget_step sp p s (cell_of k sp p s)).placer.grid ≡ (advanced p.grid p.region.cursor (cell_of k sp p s).widget).grid

pub grid-cell : (k : ℕ) (sp : Vec2) (p : Placer) (s : Vec2) → p.has_grid ≡ true → (widget_step sp p s (cell_of k sp p s)).number ≡ 0 → GridCell k sp p s
grid-cell k sp p s g h =
    let a = widget-placed sp p s (cell_of k sp p s) h in
    let r = room-there p g a.place in
    record {
      col = r.0;
      row = r.1;
      placed = a;
      still = ap (λ (q : Placer). q.has_grid) a.placer ∙ still-grid sp p (cell_of k sp p s) g;
      layout = ap (λ (q : Placer). q.layout) a.placer ∙ same_layout sp p (cell_of k sp p s) g;
      grid = ap (λ (q : Placer). q.grid) a.placer ∙ grid-past sp p (cell_of k sp p s) g r.0 r.1;
    }

-- the widget is exactly as wide as the control
pub control-width : (k : ℕ) → k ≤ 7 → (sp : Vec2) (p : Placer) (s : Vec2) → p.has_grid ≡ true → Edge k s.x → GridCell k sp p s → width (cell_of k sp p s).widget ≡ s.x
control-width k l sp p s g e c =
    ap (λ (r : Rect). width r) (widget-is k sp p s g)
    ∙ cell-width k l p.grid p.region.cursor s (rw (frame_is k sp p s g) at c.placed.frame) e

-- ---- E
pub record RowEnded (sp : Vec2) (p q : Placer) : Type 0 where
  pub row : p.grid.row < 128
  pub still : q.has_grid ≡ true
  pub layout : q.layout ≡ p.layout
  pub grid : q.grid ≡ (row_ended p.grid p.region.cursor).grid
  pub fault : placer_fault (end_row p sp) ≡ 0
  pub is : q ≡ end_row p sp

end-past : (sp : Vec2) (p : Placer) → p.has_grid ≡ true → p.grid.row < 128
    → ((end_row p sp).has_grid ≡ true) × ((end_row p sp).grid ≡ (row_ended p.grid p.region.cursor).grid) × ((end_row p sp).layout ≡ p.layout)
unfolding end_row set_cursor grid-rules.end_row
end-past sp p g j = rw (g, is_lt p.grid.row 128 j) (refl, refl, refl)

pub row-ended : (sp : Vec2) (p : Placer) → p.has_grid ≡ true → (checked_end_row p sp).number ≡ 0 → RowEnded sp p (checked_end_row p sp).placer
unfolding checked_end_row least end_row_fault
row-ended sp p g h =
    let a = changed-accepted _ p (end_row p sp) h in
    let b = lesser-none (placer_fault p) _ a.0 in
    let c = lesser-none (pair_fault sp.x sp.y) _ b.1 in
    let j = room p.has_grid 128 p.grid.row g c.1 in
    let e = end-past sp p g j in
    record { row = j; still = ap (λ (q : Placer). q.has_grid) a.2 ∙ e.0; grid = ap (λ (q : Placer). q.grid) a.2 ∙ e.1; layout = ap (λ (q : Placer). q.layout) a.2 ∙ e.2; fault = a.1; is = a.2 }

-- ---- the other records
pub record LeftAlone (p q : Placer) : Type 0 where
  pub still : q.has_grid ≡ p.has_grid
  pub layout : q.layout ≡ p.layout
  pub grid : q.grid ≡ p.grid

alone-if : (p q : Placer) (b : Bool) → LeftAlone p q → LeftAlone p (cond b p q)
alone-if p q true a = record { still = refl; layout = refl; grid = refl }
alone-if p q false a = a

by_call : (n : ℕ) (p q : Placer) → LeftAlone p q → (changed_placer n p q).number ≡ 0 → LeftAlone p (changed_placer n p q).placer
by_call n p q a h = let e = (changed-accepted n p q h).2 in record { still = ap (λ (x : Placer). x.has_grid) e ∙ a.still; layout = ap (λ (x : Placer). x.layout) e ∙ a.layout; grid = ap (λ (x : Placer). x.grid) e ∙ a.grid }

module _ (k : ℕ) (p : Placer) where
  pub advance-alone : (a : Float) → LeftAlone p (advance_cursor p a)
  unfolding advance_cursor
  advance-alone a = record { still = refl; layout = refl; grid = refl }

  pub row-height-alone : (h : Float) → LeftAlone p (set_row_height p h)
  unfolding set_row_height
  row-height-alone h = record { still = refl; layout = refl; grid = refl }

  pub max-width-alone : (w : Float) → LeftAlone p (set_max_width k p w)
  unfolding set_max_width
  max-width-alone w = record { still = refl; layout = refl; grid = refl }

  pub max-height-alone : (h : Float) → LeftAlone p (set_max_height k p h)
  unfolding set_max_height
  max-height-alone h = record { still = refl; layout = refl; grid = refl }

  pub min-width-alone : (w : Float) → LeftAlone p (set_min_width k p w)
  unfolding set_min_width grown_across expand_to_include_x
  min-width-alone w = alone-if p _ (le w zero_f) (record { still = refl; layout = refl; grid = refl })

  pub min-height-alone : (h : Float) → LeftAlone p (set_min_height k p h)
  unfolding set_min_height grown_down expand_to_include_y
  min-height-alone h = alone-if p _ (le h zero_f) (record { still = refl; layout = refl; grid = refl })

-- a record that is neither a W nor an E
pub data Other : Step → Type 0 where
  space : {a : Float} → Other (Space a)
  row_height : {h : Float} → Other (RowHeight h)
  max_width : {w : Float} → Other (MaxWidth w)
  max_height : {h : Float} → Other (MaxHeight h)
  min_width : {w : Float} → Other (MinWidth w)
  min_height : {h : Float} → Other (MinHeight h)

pub left_alone : (k : ℕ) (sp : Vec2) (p : Placer) {st : Step} → Other st → (stepped k sp p st).number ≡ 0 → LeftAlone p (stepped k sp p st).placer
unfolding stepped checked_advance_cursor checked_set_row_height checked_set_max_width checked_set_max_height checked_set_min_width checked_set_min_height
left_alone k sp p (space {a = a}) h = by_call _ p (advance_cursor p a) (advance-alone k p a) h
left_alone k sp p (row_height {h = v}) h = by_call _ p (set_row_height p v) (row-height-alone k p v) h
left_alone k sp p (max_width {w = w}) h = by_call _ p (set_max_width k p w) (max-width-alone k p w) h
left_alone k sp p (max_height {h = v}) h = by_call _ p (set_max_height k p v) (max-height-alone k p v) h
left_alone k sp p (min_width {w = w}) h = by_call _ p (set_min_width k p w) (min-width-alone k p w) h
left_alone k sp p (min_height {h = v}) h = by_call _ p (set_min_height k p v) (min-height-alone k p v) h
