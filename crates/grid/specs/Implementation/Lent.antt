-- A grid whose arrays are lent beside it: the memory and the grid that the counts and the arrays make.
use Rattle.std.specs.Prelude.{List, Float}
use Rattle.emath.specs.Rectangles.{zero_f, max_f, width, height}
use Rattle.emath.specs.declared.Rect.{Rect}
use Rattle.emath.specs.declared.Vec2.{Vec2}
use Rattle.grid.specs.Memories.{memory_of, col_width, row_height}
use Rattle.grid.specs.declared.GridLayout.{GridLayout}
use Rattle.grid.specs.declared.GridSettings.{GridSettings}
use Rattle.grid.specs.declared.GridState.{GridState}

-- the previous widths and heights, then those of this pass
abbrev pub grid_of : GridSettings → GridState → List Float → List Float → List Float → List Float → GridLayout
grid_of g s pw ph ws hs = record {
  is_first_frame = g.is_first_frame;
  prev_state = memory_of pw g.prev_cols ph g.prev_rows;
  curr_state = memory_of ws s.cols hs s.rows;
  initial_available = g.initial_available;
  sizing_pass = g.sizing_pass;
  num_columns = g.num_columns;
  spacing = g.spacing;
  min_cell_size = g.min_cell_size;
  max_cell_size = g.max_cell_size;
  col = s.col;
  row = s.row;
}

-- a grid taken apart
abbrev pub settings_of : GridLayout → GridSettings
settings_of g = record {
  is_first_frame = g.is_first_frame;
  prev_cols = g.prev_state.cols;
  prev_rows = g.prev_state.rows;
  initial_available = g.initial_available;
  sizing_pass = g.sizing_pass;
  num_columns = g.num_columns;
  spacing = g.spacing;
  min_cell_size = g.min_cell_size;
  max_cell_size = g.max_cell_size;
}

abbrev pub state_of : GridLayout → GridState
state_of g = record { cols = g.curr_state.cols; rows = g.curr_state.rows; col = g.col; row = g.row }

-- what an advance leaves at its column and its row
unfoldable pub noted_size : GridLayout → Rect → Vec2
noted_size g w = record {
  x = max_f (col_width g.curr_state g.col zero_f) (max_f (width w) g.min_cell_size.x);
  y = max_f (row_height g.curr_state g.row zero_f) (max_f (height w) g.min_cell_size.y);
}
