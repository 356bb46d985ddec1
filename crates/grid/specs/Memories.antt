-- RULES 3.1 to 3.6: grid.rs, "State": remembered column widths and row heights.
use Rattle.std.specs.Prelude.{Bool, cond, ◌&&◌, List, ℕ, ◌+◌, ◌-◌, ltb, pos, length, take, Float}
use Rattle.std.specs.Float.{binary32}
use Rattle.std.specs.Float.Ieee.{add, mul, of_int}
use Rattle.grid.specs.Entries.{entry, raised, total, same_entries, zeros}
use Rattle.grid.specs.declared.Memory.{Memory}

-- RULES 3.1: the counted entries, which is what the Rust's two Vecs hold
abbrev pub widths : Memory → List Float
widths m = take m.cols m.col_widths

abbrev pub heights : Memory → List Float
heights m = take m.rows m.row_heights

-- RULES 3.1: a memory of its arrays and its counts
abbrev pub memory_of : List Float → ℕ → List Float → ℕ → Memory
memory_of ws cols hs rows = record { col_widths = ws; cols = cols; row_heights = hs; rows = rows }

-- RULES 3.2: nothing counted, and zeros in both arrays
abbrev pub empty_memory : Memory
empty_memory = record { col_widths = zeros 32; cols = 0; row_heights = zeros 128; rows = 0 }

-- RULES 3.1: a count, no more than the array has
unfoldable pub capped : ℕ → ℕ → ℕ
capped n room = cond (ltb n room) n room

-- RULES 3.3: a count that is at least so much
unfoldable pub raised_count : ℕ → ℕ → ℕ
raised_count n least = cond (ltb n least) least n

-- RULES 3.3, set_min_col_width, set_min_row_height: beyond the arrays nothing is remembered
unfoldable pub set_min_col_width : Memory → ℕ → Float → Memory
set_min_col_width m col w =
    cond (ltb col 32)
    (record { col_widths = raised m.col_widths m.cols col w; cols = raised_count m.cols (col + 1); row_heights = m.row_heights; rows = m.rows })
    m

unfoldable pub set_min_row_height : Memory → ℕ → Float → Memory
set_min_row_height m row h =
    cond (ltb row 128)
    (record { col_widths = m.col_widths; cols = m.cols; row_heights = raised m.row_heights m.rows row h; rows = raised_count m.rows (row + 1) })
    m

-- RULES 3.4, col_width, row_height, with the value in place of none
unfoldable pub col_width : Memory → ℕ → Float → Float
col_width m col other = entry (widths m) col other

unfoldable pub row_height : Memory → ℕ → Float → Float
row_height m row other = entry (heights m) row other

-- RULES 3.5, full_width: the widths, and a spacing between each two
unfoldable pub full_width : Memory → Float → Float
full_width m x = add binary32 (total (widths m)) (mul binary32 (of_int binary32 (pos (length (widths m) - 1))) x)

-- RULES 3.6, ==
unfoldable pub same_memory : Memory → Memory → Bool
same_memory a b = same_entries (widths a) (widths b) && same_entries (heights a) (heights b)
