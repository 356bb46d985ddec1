-- What the laws of a grid ask is there from the start and is carried on: a new grid's memory is sound and its heights are whole, and an
-- advance and an end of row keep the memory sound, and what the grid adds to the cursor whole. Assumes nothing.
use mathlib.Core.Bool.{Bool, true, false, cond, ◌&&◌}
use Prim.Native.Nat.{ℕ, ◌+◌, ◌≤◌, ◌<◌}
use native.Mathlib.Omega.{arith}
use lib.Dec.{T, ltb, ltb→lt}
use lib.Ieee.{Float}
use Rattle.emath.specs.Steps.{Edge}
use Rattle.emath.specs.Rectangles.{max_f, width, height}
use Rattle.grid.specs.Entries.{raised}
use Rattle.grid.specs.Memories.{empty_memory, raised_count, set_min_col_width, set_min_row_height}
use Rattle.grid.specs.Grids as grid-rules
use Rattle.grid.specs.Grids.{prev_col_width, new_grid, noted}
use Rattle.grid.proofs.Remembered.{length-raised, length-zeros}
use Rattle.grid.proofs.Advances.{Sound, row-without-cell}
use Rattle.placer.specs.Steps.{WholeAcross, WholeDown}
use Rattle.emath.specs.declared.Rect.{Rect}
use Rattle.emath.specs.declared.Vec2.{Vec2}
use Rattle.region.specs.declared.Region.{Region}
use Rattle.grid.specs.declared.Memory.{Memory}
use Rattle.grid.specs.declared.GridLayout.{GridLayout}

-- ---- a new grid
pub empty-sound : Sound empty_memory
empty-sound = record { cols-room = length-zeros 32; rows-room = length-zeros 128; cols-few = omega arith; rows_few = omega arith }

module _ (g : Region) (known : Bool) (m : Memory) (sizing : Bool) (sp smallest largest : Vec2) (columns start : ℕ) where
  pub new-sound : Sound (new_grid g known m sizing sp smallest largest columns start).curr_state
  unfolding new_grid
  new-sound = empty-sound

  pub new-down : (k : ℕ) → Edge k smallest.y → Edge k sp.y → WholeDown k (new_grid g known m sizing sp smallest largest columns start)
  unfolding new_grid
  new-down k e s = record { heights = λ (row : ℕ). rw (row-without-cell empty_memory row smallest.y (omega arith)) e; gap = s }

-- ---- a memory stays sound
raised-few : (n i room : ℕ) → n ≤ room → i < room → raised_count n (i + 1) ≤ room
unfolding raised_count
raised-few n i room h l = go (ltb n (i + 1))
  where
    go : (b : Bool) → cond b (i + 1) n ≤ room
    go true = omega arith
    go false = h

across-sound : (m : Memory) (col : ℕ) (w : Float) → Sound m → Sound (set_min_col_width m col w)
unfolding set_min_col_width
across-sound m col w s = go (ltb col 32) (ltb→lt col 32)
  where
    go : (b : Bool) → (T b → col < 32)
        → Sound (cond b (record { col_widths = raised m.col_widths m.cols col w; cols = raised_count m.cols (col + 1); row_heights = m.row_heights; rows = m.rows }) m)
    go true y =
        let h : col < 32 = y tt in
        let l = length-raised m.col_widths m.cols col w (omega (arith, s.cols-room, s.cols-few)) (omega (arith, s.cols-room)) in
        record { cols-room = omega (arith, l, s.cols-room); rows-room = s.rows-room; cols-few = raised-few m.cols col 32 s.cols-few h; rows_few = s.rows_few }
    go false y = s

down-sound : (m : Memory) (row : ℕ) (h : Float) → Sound m → Sound (set_min_row_height m row h)
unfolding set_min_row_height
down-sound m row h s = go (ltb row 128) (ltb→lt row 128)
  where
    go : (b : Bool) → (T b → row < 128)
        → Sound (cond b (record { col_widths = m.col_widths; cols = m.cols; row_heights = raised m.row_heights m.rows row h; rows = raised_count m.rows (row + 1) }) m)
    go true y =
        let i : row < 128 = y tt in
        let l = length-raised m.row_heights m.rows row h (omega (arith, s.rows-room, s.rows_few)) (omega (arith, s.rows-room)) in
        record { cols-room = s.cols-room; rows-room = omega (arith, l, s.rows-room); cols-few = s.cols-few; rows_few = raised-few m.rows row 128 s.rows_few i }
    go false y = s

-- ---- an advance, and an end of row
module _ (g : GridLayout) (c : Rect) where
  pub advance-sound : (v : Rect) → Sound g.curr_state → Sound (grid-rules.advance g c v).grid.curr_state
  unfolding grid-rules.advance grid-rules.advanced noted
  advance-sound v s = go (ltb g.col 32 && ltb g.row 128)
    where
      go : (b : Bool) → Sound (cond b (grid-rules.advanced g c v) (record { grid = g; cursor = c })).grid.curr_state
      go true =
          down-sound (set_min_col_width g.curr_state g.col (max_f (width v) g.min_cell_size.x)) g.row (max_f (height v) g.min_cell_size.y)
          (across-sound g.curr_state g.col (max_f (width v) g.min_cell_size.x) s)
      go false = s

  pub end-row-sound : Sound g.curr_state → Sound (grid-rules.end_row g c).grid.curr_state
  unfolding grid-rules.end_row grid-rules.row_ended
  end-row-sound s = go (ltb g.row 128)
    where
      go : (b : Bool) → Sound (cond b (grid-rules.row_ended g c) (record { grid = g; cursor = c })).grid.curr_state
      go true = s
      go false = s

  pub advance-across : (k : ℕ) (v : Rect) → WholeAcross k g → WholeAcross k (grid-rules.advance g c v).grid
  unfolding grid-rules.advance grid-rules.advanced prev_col_width
  advance-across k v a = go (ltb g.col 32 && ltb g.row 128)
    where
      go : (b : Bool) → WholeAcross k (cond b (grid-rules.advanced g c v) (record { grid = g; cursor = c })).grid
      go true = record { widths = a.widths; gap = a.gap; start = a.start }
      go false = a

  pub end-row-across : (k : ℕ) → WholeAcross k g → WholeAcross k (grid-rules.end_row g c).grid
  unfolding grid-rules.end_row grid-rules.row_ended prev_col_width
  end-row-across k a = go (ltb g.row 128)
    where
      go : (b : Bool) → WholeAcross k (cond b (grid-rules.row_ended g c) (record { grid = g; cursor = c })).grid
      go true = record { widths = a.widths; gap = a.gap; start = a.start }
      go false = a
