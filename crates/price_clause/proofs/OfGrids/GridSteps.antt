-- One accepted record of a grid is the engine's step: a W gives the engine's frame, widget and next state, an E its next row, and what they
-- reach is of the domain, as the engine asks. Assumes nothing.
use Prim.Native.Nat.{ℕ, ◌<◌}
use mathlib.Core.Path.{◌≡◌, ap, sym, ◌∙◌}
use mathlib.Core.Bool.{true, false, true≢false}
use lib.Dec.{T}
use lib.Ieee.{Float}
use Rattle.emath.specs.Rectangles.{is_infinite}
use Rattle.emath.specs.Domain.{within}
use Rattle.emath.specs.Refusals.{least}
use Rattle.emath.proofs.Tests.{is_lt}
use Rattle.emath.proofs.Refusals.{lesser-none, when-none, edges-within}
use Rattle.emath.specs.declared.Rect.{Rect}
use Rattle.emath.specs.declared.Vec2.{Vec2}
use Rattle.region.specs.Regions as regions
use Rattle.region.specs.Refusals.{region_fault, closed, cursor_fault}
use Rattle.region.proofs.Answers.{region-none}
use Rattle.region.specs.declared.Direction.{Direction}
use Rattle.region.specs.declared.Direction.TheVariants.{LeftToRight, RightToLeft, TopDown, BottomUp}
use Rattle.grid.specs.Grids as grid-rules
use Rattle.grid.specs.Grids.{advanced, row_ended}
use Rattle.grid.specs.Refusals.{grid_fault, fits_grid, direction_fault}
use Rattle.grid.proofs.Advances.{Sound}
use Rattle.grid.specs.declared.GridLayout.{GridLayout}
use Rattle.placer.specs.Rules.{advance_after_rects, moved_past, expand_to_include_rect, set_cursor, end_row}
use Rattle.placer.specs.Refusals.{placer_fault, grid_part}
use Rattle.placer.specs.Operations.{checked_end_row}
use Rattle.placer.proofs.Answers.{placer-region}
use Rattle.placer.specs.declared.Placer.{Placer}
use Rattle.model.proofs.AnyNumbers.Engine as engine
use Rattle.model.proofs.InFloats.Floats.{ops}
use Rattle.pass_laws.proofs.ColumnRuns.{advanced-sound}
use Rattle.sheet.specs.Pass.{Cell, cell_of, past_cell, widget_step}
use Rattle.pass_laws.proofs.GridMoves.{grid-cell, frame_is, widget-is, row-ended}
use Rattle.price_clause.proofs.OfGrids.GridStates.{edges_of, engine_state_at, engine_state_of, given_of, cell-is, aligned-is, advanced-is, advanced-given, ended_is, ended-given}

-- ---- a grid's directions leave the cursor's left and top closed
pub grid-direction : (p : Placer) → p.has_grid ≡ true → placer_fault p ≡ 0 → fits_grid p.layout.main_dir ≡ true
unfolding placer_fault grid_part direction_fault least
grid-direction p g h =
    let a = rw g at (lesser-none (region_fault p.layout.main_dir p.region) _ h).1 in
    when-none (fits_grid p.layout.main_dir) 6 (lesser-none (grid_fault p.grid) _ a).1

corner-within : (d : Direction) (c : Rect) → fits_grid d ≡ true → cursor_fault d c ≡ 0 → T (within c.left) × T (within c.top)
unfolding cursor_fault closed fits_grid
corner-within LeftToRight c f h = let w = edges-within (closed LeftToRight c) h in (w.left, w.top)
corner-within RightToLeft c f h = absurd (true≢false (sym f))
corner-within TopDown c f h = let w = edges-within (closed TopDown c) h in (w.left, w.top)
corner-within BottomUp c f h = absurd (true≢false (sym f))

-- where a grid's placer has no fault, its cursor's corner is of the domain
cursor-within : (p : Placer) → p.has_grid ≡ true → placer_fault p ≡ 0 → T (within p.region.cursor.left) × T (within p.region.cursor.top)
cursor-within p g h = corner-within p.layout.main_dir p.region.cursor (grid-direction p g h) (region-none p.layout.main_dir p.region (placer-region p h)).2

-- ---- an accepted W is the engine's step
pub record InGrid (p : Placer) : Type 0 where
  pub grid : p.has_grid ≡ true
  pub sound : Sound p.grid.curr_state

past-state : (sp : Vec2) (p : Placer) (c : Cell) → p.has_grid ≡ true → p.grid.col < 32 → p.grid.row < 128
    → engine_state_of (past_cell sp p c) ≡ engine_state_at (advanced p.grid p.region.cursor c.widget).grid (advanced p.grid p.region.cursor c.widget).cursor
unfolding advance_after_rects moved_past set_cursor expand_to_include_rect regions.expand_to_include_rect grid-rules.advance
past-state sp p c g i j = rw (g, is_lt p.grid.col 32 i, is_lt p.grid.row 128 j)

pub record CellMove (k : ℕ) (p q : Placer) (w h : Float) (c : Cell) : Type 0 where
  pub frame : edges_of c.frame ≡ engine.next_cell (ops k) (given_of p.grid) (engine_state_of p) w h
  pub widget : edges_of c.widget ≡ engine.widget (ops k) (edges_of c.frame) w h
  pub after : engine_state_of q ≡ engine.advance (ops k) (given_of p.grid) (engine_state_of p) (edges_of c.widget)
  pub given : given_of q.grid ≡ given_of p.grid
  pub right : T (within c.frame.right)
  pub bottom : T (within c.frame.bottom)
  pub left : T (within q.region.cursor.left)
  pub inside : InGrid q

pub cell-move : (k : ℕ) (sp : Vec2) (p : Placer) → InGrid p → (s : Vec2) → is_infinite s.x ≡ false → is_infinite s.y ≡ false → (widget_step sp p s (cell_of k sp p s)).number ≡ 0
    → CellMove k p (widget_step sp p s (cell_of k sp p s)).placer s.x s.y (cell_of k sp p s)
cell-move k sp p i s x y h =
    let g = p.grid in
    let r = p.region in
    let c = cell_of k sp p s in
    let a = grid-cell k sp p s i.grid h in
    let w = edges-within c.frame a.placed.frame in
    let q = (widget_step sp p s c).placer in
    record {
      frame = ap edges_of (frame_is k sp p s i.grid) ∙ cell-is k g r.cursor s;
      widget = ap edges_of (widget-is k sp p s i.grid ∙ ap (λ (f : Rect). grid-rules.align_size_within_rect k s f) (sym (frame_is k sp p s i.grid))) ∙ aligned-is k s c.frame x y;
      after = ap engine_state_of a.placed.placer ∙ past-state sp p c i.grid a.col a.row ∙ advanced-is k g r.cursor c.widget i.sound a.col a.row;
      given = ap given_of a.grid ∙ advanced-given g r.cursor c.widget;
      right = w.right;
      bottom = w.bottom;
      left = (cursor-within q a.still (ap placer_fault a.placed.placer ∙ a.placed.after)).0;
      inside = record { grid = a.still; sound = rw a.grid (advanced-sound g r.cursor c.widget a.col a.row i.sound) };
    }

-- ---- and so is an accepted E
end-state : (sp : Vec2) (p : Placer) → p.has_grid ≡ true → p.grid.row < 128
    → engine_state_of (end_row p sp) ≡ engine_state_at (row_ended p.grid p.region.cursor).grid (row_ended p.grid p.region.cursor).cursor
unfolding end_row set_cursor grid-rules.end_row
end-state sp p g j = rw (g, is_lt p.grid.row 128 j)

ended-sound : (g : GridLayout) (c : Rect) → Sound g.curr_state → Sound (row_ended g c).grid.curr_state
unfolding row_ended
ended-sound g c s = s

pub record RowMove (k : ℕ) (p q : Placer) : Type 0 where
  pub after : engine_state_of q ≡ engine.end_row (ops k) (given_of p.grid) (engine_state_of p)
  pub given : given_of q.grid ≡ given_of p.grid
  pub top : T (within q.region.cursor.top)
  pub inside : InGrid q

pub row_move : (k : ℕ) (sp : Vec2) (p : Placer) → InGrid p → (checked_end_row p sp).number ≡ 0 → RowMove k p (checked_end_row p sp).placer
row_move k sp p i h =
    let g = p.grid in
    let r = p.region in
    let a = row-ended sp p i.grid h in
    record {
      after = ap engine_state_of a.is ∙ end-state sp p i.grid a.row ∙ ended_is k g r.cursor;
      given = ap given_of a.grid ∙ ended-given g r.cursor;
      top = (cursor-within (checked_end_row p sp).placer a.still (ap placer_fault a.is ∙ a.fault)).1;
      inside = record { grid = a.still; sound = rw a.grid (ended-sound g r.cursor i.sound) };
    }
