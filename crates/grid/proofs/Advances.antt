-- What a pass remembers, and how it moves on: a column is as wide as the largest of what it was, the widget and the minimum, and no
-- narrower than before; a row's end moves by the height met in this pass, or by the minimum where the row holds no cell yet. Assumes nothing.
use Rattle.std.proofs.Common.{◌≡◌, refl, ◌∙◌, Bool, true, false, cond, ℕ, ◌+◌, ◌≤◌, ◌<◌, arith, T, ltb, length, take, length-take}
use Rattle.std.specs.Prelude.{Float}
use Rattle.std.specs.Float.{binary32}
use Rattle.std.specs.Float.Ieee.{add, le}
use Rattle.emath.specs.Rectangles.{zero_f, max_f, width, height}
use Rattle.std.proofs.lemmas.Bool.{lt-ltb}
use Rattle.emath.proofs.OrderLaws.{Number}
use Rattle.emath.proofs.MinMax.{max-first-le}
use Rattle.grid.specs.Entries.{entry, raised}
use Rattle.grid.specs.Memories.{widths, raised_count, set_min_col_width, set_min_row_height, col_width, row_height}
use Rattle.grid.specs.Grids.{noted, advanced, advance, row_ended, end_row}
use Rattle.grid.proofs.Remembered.{entry-none, raised-same}
use Rattle.emath.specs.declared.Rect.{Rect}
use Rattle.grid.specs.declared.Memory.{Memory}
use Rattle.grid.specs.declared.GridLayout.{GridLayout}

-- ---- arrays of their lengths, and counts within them
pub record Sound (m : Memory) : Type 0 where
  pub cols-room : length m.col_widths ≡ 32
  pub rows-room : length m.row_heights ≡ 128
  pub cols-few : m.cols ≤ 32
  pub rows_few : m.rows ≤ 128

pub col-width-set : (m : Memory) (col : ℕ) (w other : Float) → Sound m → col < 32 → col_width (set_min_col_width m col w) col other ≡ max_f (col_width m col zero_f) w
unfolding col_width set_min_col_width
col-width-set m col w other s h = rw (lt-ltb col 32 h) (raised-same m.col_widths m.cols col w (omega (arith, s.cols-room, s.cols-few)) (omega (arith, s.cols-room)) other)

pub row-height-set : (m : Memory) (row : ℕ) (h other : Float) → Sound m → row < 128 → row_height (set_min_row_height m row h) row other ≡ max_f (row_height m row zero_f) h
unfolding row_height set_min_row_height
row-height-set m row h other s l = rw (lt-ltb row 128 l) (raised-same m.row_heights m.rows row h (omega (arith, s.rows-room, s.rows_few)) (omega (arith, s.rows-room)) other)

-- ---- heights leave widths alone, and widths heights
row-keeps-widths : (m : Memory) (row : ℕ) (h : Float) (col : ℕ) (other : Float) → col_width (set_min_row_height m row h) col other ≡ col_width m col other
unfolding col_width set_min_row_height
row-keeps-widths m row h col other = go (ltb row 128)
  where
    go : (t : Bool) → entry (widths (cond t (record { col_widths = m.col_widths; cols = m.cols; row_heights = raised m.row_heights m.rows row h; rows = raised_count m.rows (row + 1) }) m)) col other ≡ entry (widths m) col other
    go true = refl
    go false = refl

-- ---- advance
pub advance-width : (g : GridLayout) (c w : Rect) (other : Float) → Sound g.curr_state → g.col < 32 → g.row < 128
    → col_width (advance g c w).grid.curr_state g.col other ≡ max_f (col_width g.curr_state g.col zero_f) (max_f (width w) g.min_cell_size.x)
unfolding advance advanced noted
advance-width g c w other s h l =
    rw (lt-ltb g.col 32 h, lt-ltb g.row 128 l)
    (row-keeps-widths (set_min_col_width g.curr_state g.col (max_f (width w) g.min_cell_size.x)) g.row (max_f (height w) g.min_cell_size.y) g.col other
    ∙ col-width-set g.curr_state g.col (max_f (width w) g.min_cell_size.x) other s h)

pub advance-grows : (g : GridLayout) (c w : Rect) (other : Float) → Sound g.curr_state → g.col < 32 → g.row < 128 → Number (col_width g.curr_state g.col zero_f)
    → T (le (col_width g.curr_state g.col zero_f) (col_width (advance g c w).grid.curr_state g.col other))
advance-grows g c w other s h l n = rw (advance-width g c w other s h l) (max-first-le (col_width g.curr_state g.col zero_f) (max_f (width w) g.min_cell_size.x) n)

-- ---- end_row
pub end-row-top : (g : GridLayout) (c : Rect) → g.row < 128 → (end_row g c).cursor.top ≡ add binary32 (add binary32 c.top g.spacing.y) (row_height g.curr_state g.row g.min_cell_size.y)
unfolding end_row row_ended
end-row-top g c h = rw (lt-ltb g.row 128 h)

pub row-without-cell : (m : Memory) (row : ℕ) (other : Float) → m.rows ≤ row → row_height m row other ≡ other
unfolding row_height
row-without-cell m row other h = entry-none (take m.rows m.row_heights) row other (simp length-take (omega arith))
