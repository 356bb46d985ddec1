-- The engine's view of a grid: its state and what it is given, read off a placer; and that the grid's cell, its widget, its advance and its
-- end of row are the engine's. Assumes nothing.
use Prim.Native.Nat.{ℕ, suc, ◌+◌, ◌<◌}
use mathlib.Core.Path.{◌≡◌, refl}
use mathlib.Core.Bool.{false}
use native.Mathlib.Omega.{arith}
use lib.ListN.{get_or}
use lib.Ieee.{Float}
use Rattle.pass_laws.proofs.Lists.{entry-get, list-raised}
use Rattle.emath.specs.Rectangles.{zero_f, max_f, width, height, is_infinite, centred, aligned_to, align_on, align_within, round_rect}
use Rattle.emath.proofs.Tests.{is_lt}
use Rattle.emath.specs.declared.Rect.{Rect}
use Rattle.emath.specs.declared.Vec2.{Vec2}
use Rattle.grid.specs.Memories.{widths, heights, set_min_col_width, set_min_row_height, col_width, row_height}
use Rattle.grid.specs.Grids as grid-rules
use Rattle.grid.specs.Grids.{prev_col_width, prev_row_height, next_width, align_size_within_rect, noted, advanced, row_ended}
use Rattle.grid.proofs.Advances.{Sound}
use Rattle.grid.specs.declared.Memory.{Memory}
use Rattle.grid.specs.declared.GridLayout.{GridLayout}
use Rattle.placer.specs.declared.Placer.{Placer}
use Rattle.model.proofs.AnyNumbers.Engine.{Edges, EngineState, Given, raise, widget, next_cell, advance, end_row}
use Rattle.model.proofs.InFloats.Floats.{ops}

-- ---- the view
abbrev pub edges_of : Rect → Edges Float
edges_of r = record { left = r.left; top = r.top; right = r.right; bottom = r.bottom }

abbrev pub engine_state_at : GridLayout → Rect → EngineState Float
engine_state_at g c = record { col = g.col; row = g.row; x = c.left; y = c.top; cols = widths g.curr_state; rows = heights g.curr_state }

abbrev pub engine_state_of : Placer → EngineState Float
engine_state_of p = engine_state_at p.grid p.region.cursor

abbrev pub given_of : GridLayout → Given Float
given_of g = record {
  sizing = g.sizing_pass;
  left = g.initial_available.left;
  min_w = g.min_cell_size.x;
  min_h = g.min_cell_size.y;
  gap_x = g.spacing.x;
  gap_y = g.spacing.y;
  cols = widths g.prev_state;
  rows = heights g.prev_state;
}

next : (n : ℕ) → n + 1 ≡ suc n
next n = omega arith

-- ---- memories
width_is : (m : Memory) (i : ℕ) (other : Float) → col_width m i other ≡ get_or (widths m) i other
unfolding col_width
width_is m i other = entry-get (widths m) i other

height-is : (m : Memory) (i : ℕ) (other : Float) → row_height m i other ≡ get_or (heights m) i other
unfolding row_height
height-is m i other = entry-get (heights m) i other

-- after a cell both lists are the engine's
module _ (k : ℕ) (g : GridLayout) (v : Rect) (s : Sound g.curr_state) (i : g.col < 32) (j : g.row < 128) where
  widths-noted : widths (noted g v) ≡ raise (ops k) (widths g.curr_state) g.col (max_f (width v) g.min_cell_size.x)
  unfolding noted set_min_col_width set_min_row_height
  widths-noted = rw (is_lt g.row 128 j, is_lt g.col 32 i) (list-raised k g.curr_state.col_widths g.curr_state.cols g.col _ (omega (arith, s.cols-room, s.cols-few)) (omega (arith, s.cols-room)))

  heights-noted : heights (noted g v) ≡ raise (ops k) (heights g.curr_state) g.row (max_f (height v) g.min_cell_size.y)
  unfolding noted set_min_col_width set_min_row_height
  heights-noted = rw (is_lt g.row 128 j, is_lt g.col 32 i) (list-raised k g.curr_state.row_heights g.curr_state.rows g.row _ (omega (arith, s.rows-room, s.rows_few)) (omega (arith, s.rows-room)))

-- ---- next_cell, align_size_within_rect, advance, end_row
pub aligned-is : (k : ℕ) (s : Vec2) (f : Rect) → is_infinite s.x ≡ false → is_infinite s.y ≡ false → edges_of (align_size_within_rect k s f) ≡ widget (ops k) (edges_of f) s.x s.y
unfolding align_size_within_rect align_within align_on aligned_to centred round_rect widget
aligned-is k s f x y = rw (x, y)

module _ (k : ℕ) (g : GridLayout) (c : Rect) where
  pub cell-is : (s : Vec2) → edges_of (grid-rules.next_cell k g c s) ≡ next_cell (ops k) (given_of g) (engine_state_at g c) s.x s.y
  unfolding grid-rules.next_cell next_width prev_row_height round_rect next_cell
  cell-is s = rw (width_is g.prev_state g.col zero_f, height-is g.prev_state g.row g.min_cell_size.y)

  pub advanced-is : (v : Rect) → Sound g.curr_state → g.col < 32 → g.row < 128
      → engine_state_at (advanced g c v).grid (advanced g c v).cursor ≡ advance (ops k) (given_of g) (engine_state_at g c) (edges_of v)
  unfolding advanced prev_col_width advance
  advanced-is v s i j = rw (next g.col, width_is g.prev_state g.col g.min_cell_size.x, widths-noted k g v s i j, heights-noted k g v s i j)

  pub ended_is : engine_state_at (row_ended g c).grid (row_ended g c).cursor ≡ end_row (ops k) (given_of g) (engine_state_at g c)
  unfolding row_ended end_row
  ended_is = rw (next g.row, height-is g.curr_state g.row g.min_cell_size.y)

-- and what it is given stays
module _ (g : GridLayout) (c : Rect) where
  pub advanced-given : (v : Rect) → given_of (advanced g c v).grid ≡ given_of g
  unfolding advanced
  advanced-given v = refl

  pub ended-given : given_of (row_ended g c).grid ≡ given_of g
  unfolding row_ended
  ended-given = refl
