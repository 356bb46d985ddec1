-- RULES 3.8 to 3.15: grid.rs, "GridLayout", function by function, before anything is refused. Where a call rounds, the step is
-- 1 / 2 ^ k point.
use Rattle.std.specs.Prelude.{ℕ, ◌+◌, Bool, true, false, cond, not, ◌&&◌, ◌||◌, eqb, ltb, Float}
use Rattle.std.specs.Float.{binary32}
use Rattle.std.specs.Float.Ieee.{add, sub}
use Rattle.emath.specs.Rectangles.{zero_f, max_f, at_least, at_most, width, height, from_min_size, intersect, left_center, align_within, round_rect}
use Rattle.emath.specs.Domain.{finite}
use Rattle.region.specs.Regions.{zero_vec}
use Rattle.region.specs.Refusals.{zero_rect}
use Rattle.grid.specs.Memories.{empty_memory, set_min_col_width, set_min_row_height, col_width, row_height, same_memory}
use Rattle.emath.specs.declared.Rect.{Rect}
use Rattle.emath.specs.declared.Vec2.{Vec2}
use Rattle.region.specs.declared.Region.{Region}
use Rattle.grid.specs.declared.Memory.{Memory}
use Rattle.grid.specs.declared.GridLayout.{GridLayout}
use Rattle.grid.specs.declared.Moved.{Moved}
use Rattle.grid.specs.declared.Saved.{Saved}

-- ---- new
-- RULES 3.2: where no memory is known, an empty one
unfoldable pub known_memory : Bool → Memory → Memory
known_memory known m = cond known m empty_memory

-- RULES 3.8: it begins with nothing remembered of its own; without a given memory it is a first pass
unfoldable pub new_grid : Region → Bool → Memory → Bool → Vec2 → Vec2 → Vec2 → ℕ → ℕ → GridLayout
new_grid g known m sizing sp smallest largest columns start = record {
  is_first_frame = not known;
  prev_state = known_memory known m;
  curr_state = empty_memory;
  initial_available = intersect g.max_rect g.cursor;
  sizing_pass = sizing;
  num_columns = columns;
  spacing = sp;
  min_cell_size = smallest;
  max_cell_size = largest;
  col = 0;
  row = start;
}

-- RULES 3.8: a first pass over an empty memory, every length zero: what `new` answers where it is refused
abbrev pub empty_grid : GridLayout
empty_grid = record {
  is_first_frame = true;
  prev_state = empty_memory;
  curr_state = empty_memory;
  initial_available = zero_rect;
  sizing_pass = false;
  num_columns = 0;
  spacing = zero_vec;
  min_cell_size = zero_vec;
  max_cell_size = zero_vec;
  col = 0;
  row = 0;
}

-- ---- RULES 3.9, prev_col_width, prev_row_height: what the last pass remembered, or the minimum
unfoldable pub prev_col_width : GridLayout → ℕ → Float
prev_col_width g col = col_width g.prev_state col g.min_cell_size.x

unfoldable pub prev_row_height : GridLayout → ℕ → Float
prev_row_height g row = row_height g.prev_state row g.min_cell_size.y

-- ---- RULES 3.10, available_rect: the width of the last named column, and of any other
unfoldable pub last_width : GridLayout → Rect → Float
last_width g c =
    cond g.is_first_frame
    (col_width g.curr_state g.col g.min_cell_size.x)
    (at_most (sub binary32 g.initial_available.right c.left) g.max_cell_size.x)

unfoldable pub other_width : GridLayout → Float
other_width g =
    cond (finite g.max_cell_size.x)
    g.max_cell_size.x
    (col_width g.prev_state g.col (col_width g.curr_state g.col g.min_cell_size.x))

unfoldable pub cell_width : GridLayout → Rect → Float
cell_width g c = cond (eqb (g.col + 1) g.num_columns) (last_width g c) (other_width g)

-- RULES 3.10: what is left below, between the minimum and the maximum
unfoldable pub cell_height : GridLayout → Float → Float
cell_height g h = at_most (at_least h g.min_cell_size.y) g.max_cell_size.y

-- RULES 3.10: at least as wide as the column is already in this pass
unfoldable pub available_rect : GridLayout → Region → Rect
available_rect g r =
    from_min_size
    (record { x = (intersect r.max_rect r.cursor).left; y = (intersect r.max_rect r.cursor).top })
    (record {
      x = max_f (cell_width g r.cursor) (col_width g.curr_state g.col zero_f);
      y = cell_height g (sub binary32 r.max_rect.bottom (intersect r.max_rect r.cursor).top);
    })

-- ---- RULES 3.11, next_cell: the child's size, or the remembered one if that is larger; a sizing pass goes by no remembered width
unfoldable pub next_width : GridLayout → Float
next_width g = cond g.sizing_pass zero_f (col_width g.prev_state g.col zero_f)

unfoldable pub next_cell : ℕ → GridLayout → Rect → Vec2 → Rect
next_cell k g c s =
    round_rect k
    (from_min_size (record { x = c.left; y = c.top }) (record { x = max_f s.x (next_width g); y = max_f s.y (prev_row_height g g.row) }))

-- ---- RULES 3.12, align_size_within_rect, justify_and_align: at the left, in the middle of the height, whatever the layout says
unfoldable pub align_size_within_rect : ℕ → Vec2 → Rect → Rect
align_size_within_rect k size frame = round_rect k (align_within left_center size frame)

-- ---- RULES 3.13, advance: column and row remember the widget's size, and at least the minimum
unfoldable pub noted : GridLayout → Rect → Memory
noted g w =
    set_min_row_height
    (set_min_col_width g.curr_state g.col (max_f (width w) g.min_cell_size.x))
    g.row (max_f (height w) g.min_cell_size.y)

-- RULES 3.13: the cursor goes on by the column's width in the last pass, or the minimum, and by the spacing
unfoldable pub advanced : GridLayout → Rect → Rect → Moved
advanced g c w = record {
  grid = record {
    is_first_frame = g.is_first_frame;
    prev_state = g.prev_state;
    curr_state = noted g w;
    initial_available = g.initial_available;
    sizing_pass = g.sizing_pass;
    num_columns = g.num_columns;
    spacing = g.spacing;
    min_cell_size = g.min_cell_size;
    max_cell_size = g.max_cell_size;
    col = g.col + 1;
    row = g.row;
  };
  cursor = record { left = add binary32 c.left (add binary32 (prev_col_width g g.col) g.spacing.x); top = c.top; right = c.right; bottom = c.bottom };
}

-- RULES 3.13: at column 32 or row 128 there is no room, and nothing changes: the call is refused
unfoldable pub advance : GridLayout → Rect → Rect → Moved
advance g c w = cond (ltb g.col 32 && ltb g.row 128) (advanced g c w) (record { grid = g; cursor = c })

-- ---- RULES 3.14, end_row: by the height that this pass has met, or the minimum
unfoldable pub row_ended : GridLayout → Rect → Moved
row_ended g c = record {
  grid = record {
    is_first_frame = g.is_first_frame;
    prev_state = g.prev_state;
    curr_state = g.curr_state;
    initial_available = g.initial_available;
    sizing_pass = g.sizing_pass;
    num_columns = g.num_columns;
    spacing = g.spacing;
    min_cell_size = g.min_cell_size;
    max_cell_size = g.max_cell_size;
    col = 0;
    row = g.row + 1;
  };
  cursor = record {
    left = g.initial_available.left;
    top = add binary32 (add binary32 c.top g.spacing.y) (row_height g.curr_state g.row g.min_cell_size.y);
    right = c.right;
    bottom = c.bottom;
  };
}

unfoldable pub end_row : GridLayout → Rect → Moved
end_row g c = cond (ltb g.row 128) (row_ended g c) (record { grid = g; cursor = c })

-- ---- RULES 3.15, save: the flag is set after a first pass, and where other lengths are remembered than before
unfoldable pub save : GridLayout → Saved
save g = record { memory = g.curr_state; save = not (same_memory g.curr_state g.prev_state) || g.is_first_frame }
