-- RULES 8.16: the public calls of grid.rs: the least number that applies to the arguments, or else to the answer, or else what the rule
-- gives. A state that the caller hands in is an argument like the others. Where a call rounds, the step is 1 / 2 ^ k point.
use Rattle.std.specs.Prelude.{ℕ, Bool, [], ◌∷◌, ltb, leb, Float, Option, Result}
use Rattle.emath.specs.Rectangles.{zero_f}
use Rattle.emath.specs.Numbers as number
use Rattle.emath.specs.Refusals.{when, least, or_else, length_fault, extent_fault, pair_fault, size_fault, rect_fault, outside, answer}
use Rattle.region.specs.Refusals.{cursor_fault, region_fault}
use Rattle.region.specs.Operations.{placed_number}
use Rattle.grid.specs.Memories.{set_min_col_width, set_min_row_height, col_width, row_height, full_width}
use Rattle.grid.specs.Grids.{known_memory, new_grid, empty_grid, prev_col_width, prev_row_height, available_rect, next_cell, align_size_within_rect, advance, end_row, save}
use Rattle.grid.specs.Refusals.{memory_fault, max_cell_fault, grid_fault, direction_fault, moved_fault, memory_answer, grid_answer, moved_answer, saved_answer, entry_answer}
use Rattle.grid.specs.declared.MemoryAnswer.{MemoryAnswer}
use Rattle.grid.specs.declared.GridAnswer.{GridAnswer}
use Rattle.grid.specs.declared.MovedAnswer.{MovedAnswer}
use Rattle.grid.specs.declared.SavedAnswer.{SavedAnswer}
use Rattle.emath.specs.declared.Rect.{Rect}
use Rattle.emath.specs.declared.Vec2.{Vec2}
use Rattle.region.specs.declared.Direction.{Direction}
use Rattle.region.specs.declared.Region.{Region}
use Rattle.grid.specs.declared.Memory.{Memory}
use Rattle.grid.specs.declared.GridLayout.{GridLayout}

-- ---- RULES 8.16, Memory: 8 where the arrays have no such place
unfoldable pub checked_set_min_col_width : Memory → ℕ → Float → MemoryAnswer
checked_set_min_col_width m col w =
    memory_answer (or_else (least (memory_fault m ∷ extent_fault w ∷ when (leb 32 col) number.grid_full ∷ [])) (outside (memory_fault (set_min_col_width m col w)))) m (set_min_col_width m col w)

unfoldable pub checked_set_min_row_height : Memory → ℕ → Float → MemoryAnswer
checked_set_min_row_height m row h =
    memory_answer (or_else (least (memory_fault m ∷ extent_fault h ∷ when (leb 128 row) number.grid_full ∷ [])) (outside (memory_fault (set_min_row_height m row h)))) m (set_min_row_height m row h)

-- RULES 8.16: a column or row beyond the count has no entry
unfoldable pub checked_col_width : Memory → ℕ → Result (Option Float) ℕ
checked_col_width m col = entry_answer (memory_fault m) (ltb col m.cols) (col_width m col zero_f)

unfoldable pub checked_row_height : Memory → ℕ → Result (Option Float) ℕ
checked_row_height m row = entry_answer (memory_fault m) (ltb row m.rows) (row_height m row zero_f)

-- RULES 8.16, full_width: its number, then what it answers; so with the rectangles below
unfoldable pub full_width_number : Memory → Float → ℕ
full_width_number m x = or_else (least (memory_fault m ∷ length_fault x ∷ [])) (outside (length_fault (full_width m x)))

unfoldable pub checked_full_width : Memory → Float → Result Float ℕ
checked_full_width m x = answer (full_width_number m x) (full_width m x)

-- ---- RULES 8.16, GridLayout
-- An absent memory is not read. There is no given grid: refused, the answer is `empty_grid`.
unfoldable pub checked_new : Direction → Region → Bool → Memory → Bool → Vec2 → Vec2 → Vec2 → ℕ → ℕ → GridAnswer
checked_new d g known m sizing sp smallest largest columns start =
    grid_answer
    (or_else
    (least (region_fault d g ∷ memory_fault (known_memory known m) ∷ pair_fault sp.x sp.y ∷ size_fault smallest ∷ max_cell_fault largest ∷ direction_fault d ∷ when (ltb 128 start) number.grid_full ∷ []))
    (outside (grid_fault (new_grid g known m sizing sp smallest largest columns start))))
    empty_grid (new_grid g known m sizing sp smallest largest columns start)

-- RULES 8.16: the last pass's lengths
unfoldable pub checked_prev_col_width : GridLayout → ℕ → Result Float ℕ
checked_prev_col_width g col = answer (grid_fault g) (prev_col_width g col)

unfoldable pub checked_prev_row_height : GridLayout → ℕ → Result Float ℕ
checked_prev_row_height g row = answer (grid_fault g) (prev_row_height g row)

-- RULES 8.16: rectangles
unfoldable pub available_rect_number : GridLayout → Direction → Region → ℕ
available_rect_number g d r = placed_number (least (grid_fault g ∷ region_fault d r ∷ direction_fault d ∷ [])) (available_rect g r)

unfoldable pub checked_available_rect : GridLayout → Direction → Region → Result Rect ℕ
checked_available_rect g d r = answer (available_rect_number g d r) (available_rect g r)

unfoldable pub next_cell_number : ℕ → GridLayout → Direction → Rect → Vec2 → ℕ
next_cell_number k g d c s = placed_number (least (grid_fault g ∷ cursor_fault d c ∷ size_fault s ∷ direction_fault d ∷ [])) (next_cell k g c s)

unfoldable pub checked_next_cell : ℕ → GridLayout → Direction → Rect → Vec2 → Result Rect ℕ
checked_next_cell k g d c s = answer (next_cell_number k g d c s) (next_cell k g c s)

unfoldable pub align_size_within_rect_number : ℕ → GridLayout → Vec2 → Rect → ℕ
align_size_within_rect_number k g s f = placed_number (least (grid_fault g ∷ size_fault s ∷ rect_fault f ∷ [])) (align_size_within_rect k s f)

unfoldable pub checked_align_size_within_rect : ℕ → GridLayout → Vec2 → Rect → Result Rect ℕ
checked_align_size_within_rect k g s f = answer (align_size_within_rect_number k g s f) (align_size_within_rect k s f)

-- RULES 8.16: 8 where no column or no row is left (RULES 8.12)
unfoldable pub checked_advance : GridLayout → Direction → Rect → Rect → Rect → MovedAnswer
checked_advance g d c f w =
    moved_answer
    (or_else
    (least (grid_fault g ∷ cursor_fault d c ∷ rect_fault f ∷ rect_fault w ∷ direction_fault d ∷ when (leb 32 g.col) number.grid_full ∷ when (leb 128 g.row) number.grid_full ∷ []))
    (outside (moved_fault d (advance g c w))))
    (record { grid = g; cursor = c }) (advance g c w)

-- RULES 8.16: 8 where no row is left
unfoldable pub checked_end_row : GridLayout → Direction → Rect → MovedAnswer
checked_end_row g d c =
    moved_answer
    (or_else (least (grid_fault g ∷ cursor_fault d c ∷ direction_fault d ∷ when (leb 128 g.row) number.grid_full ∷ [])) (outside (moved_fault d (end_row g c))))
    (record { grid = g; cursor = c }) (end_row g c)

-- RULES 8.16: refused, it hands back what the pass was given
unfoldable pub checked_save : GridLayout → SavedAnswer
checked_save g = saved_answer (grid_fault g) g.prev_state (save g)
