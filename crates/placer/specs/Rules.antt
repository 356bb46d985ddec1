-- RULES 4.1 to 4.18: placer.rs, function by function, before anything is refused. Where a call rounds, the step is 1 / 2 ^ k point.
use Rattle.std.specs.Prelude.{ℕ, true, false, cond, Float}
use Rattle.std.specs.Float.Ieee.{le}
use Rattle.emath.specs.Rectangles.{zero_f, size_of, center, union, round_rect}
use Rattle.emath.specs.declared.Rect.{Rect}
use Rattle.emath.specs.declared.Vec2.{Vec2}
use Rattle.emath.specs.declared.Pos2.{Pos2}
use Rattle.region.specs.Regions as regions
use Rattle.layout.specs.Rules as layout-rules
use Rattle.region.specs.Regions.{zero_vec, with_cursor}
use Rattle.layout.specs.declared.Layout.{Layout}
use Rattle.region.specs.declared.Region.{Region}
use Rattle.grid.specs.Memories.{empty_memory}
use Rattle.grid.specs.Grids as grid-rules
use Rattle.grid.specs.Grids.{empty_grid}
use Rattle.grid.specs.declared.GridLayout.{GridLayout}
use Rattle.grid.specs.declared.Saved.{Saved}
use Rattle.placer.specs.declared.Placer.{Placer}

-- ---- RULES 4.2, new: no grid yet
unfoldable pub new_placer : ℕ → Rect → Layout → Placer
new_placer k m l = record { has_grid = false; grid = empty_grid; layout = l; region = layout-rules.region_from_max_rect k l m }

-- ---- RULES 4.3, set_grid, save_grid: without a grid there is nothing to save
abbrev pub set_grid : Placer → GridLayout → Placer
set_grid p g = record { has_grid = true; grid = g; layout = p.layout; region = p.region }

unfoldable pub save_grid : Placer → Saved
save_grid p = cond p.has_grid (grid-rules.save p.grid) (record { memory = empty_memory; save = false })

-- ---- RULES 4.1: the region set anew
abbrev pub with_region : Placer → Region → Placer
with_region p r = record { has_grid = p.has_grid; grid = p.grid; layout = p.layout; region = r }

-- RULES 4.5, force_set_min_rect, set_cursor
unfoldable pub force_set_min_rect : Placer → Rect → Placer
force_set_min_rect p m = with_region p (record { min_rect = m; max_rect = p.region.max_rect; cursor = p.region.cursor })

unfoldable pub set_cursor : Placer → Rect → Placer
set_cursor p c = with_region p (with_cursor p.region c)

-- ---- the grid's call, or the layout's where there is no grid
-- RULES 4.6, align_size_within_rect
unfoldable pub align_size_within_rect : ℕ → Placer → Vec2 → Rect → Rect
align_size_within_rect k p size outer = cond p.has_grid (grid-rules.align_size_within_rect k size outer) (layout-rules.align_size_within_rect k p.layout size outer)

-- RULES 4.7, available_rect_before_wrap: this one rounds
unfoldable pub available : Placer → Rect
available p = cond p.has_grid (grid-rules.available_rect p.grid p.region) (layout-rules.available_rect_before_wrap p.layout.main_dir p.region)

unfoldable pub available_rect_before_wrap : ℕ → Placer → Rect
available_rect_before_wrap k p = round_rect k (available p)

-- RULES 4.8, available_size: this one does not
unfoldable pub available_size : Placer → Vec2
available_size p = cond p.has_grid (size_of (grid-rules.available_rect p.grid p.region)) (layout-rules.available_size p.layout p.region)

-- RULES 4.9, next_space: a cell, or a frame
unfoldable pub next_space : ℕ → Placer → Vec2 → Vec2 → Rect
next_space k p s sp = cond p.has_grid (grid-rules.next_cell k p.grid p.region.cursor s) (layout-rules.next_frame k p.layout p.region s sp)

-- RULES 4.10, next_widget_position: the middle of a cell for nothing
unfoldable pub next_widget_position : ℕ → Placer → Pos2
next_widget_position k p =
    cond p.has_grid (center (grid-rules.next_cell k p.grid p.region.cursor zero_vec)) (layout-rules.next_widget_position k p.layout p.region)

-- RULES 4.11, justify_and_align
unfoldable pub justify_and_align : ℕ → Placer → Rect → Vec2 → Rect
justify_and_align k p r s = cond p.has_grid (grid-rules.align_size_within_rect k s r) (layout-rules.justify_and_align k p.layout r s)

-- ---- RULES 4.12, advance_cursor: in a grid it is refused
unfoldable pub advance_cursor : Placer → Float → Placer
advance_cursor p a = with_region p (layout-rules.advance_cursor p.layout.main_dir p.region a)

-- ---- RULES 4.16, expand_to_include_…: the region's, in a grid too
unfoldable pub expand_to_include_rect : Placer → Rect → Placer
expand_to_include_rect p r = with_region p (regions.expand_to_include_rect p.region r)

unfoldable pub expand_to_include_x : Placer → Float → Placer
expand_to_include_x p x = with_region p (regions.expand_to_include_x p.region x)

unfoldable pub expand_to_include_y : Placer → Float → Placer
expand_to_include_y p y = with_region p (regions.expand_to_include_y p.region y)

-- ---- RULES 4.13, advance_after_rects: the cursor is moved by the grid or the layout, then min_rect and max_rect include the frame
unfoldable pub moved_past : Placer → Rect → Rect → Vec2 → Placer
moved_past p f w sp =
    cond p.has_grid
    (set_grid (set_cursor p (grid-rules.advance p.grid p.region.cursor w).cursor) (grid-rules.advance p.grid p.region.cursor w).grid)
    (set_cursor p (layout-rules.advance_after_rects p.layout p.region.cursor f w sp))

unfoldable pub advance_after_rects : Placer → Rect → Rect → Vec2 → Placer
advance_after_rects p f w sp = expand_to_include_rect (moved_past p f w sp) f

-- ---- RULES 4.14, end_row
unfoldable pub end_row : Placer → Vec2 → Placer
end_row p sp =
    cond p.has_grid
    (set_grid (set_cursor p (grid-rules.end_row p.grid p.region.cursor).cursor) (grid-rules.end_row p.grid p.region.cursor).grid)
    (with_region p (layout-rules.end_row p.layout p.region sp))

-- ---- RULES 4.15, set_row_height: the layout is asked even in a grid
unfoldable pub set_row_height : Placer → Float → Placer
set_row_height p h = with_region p (layout-rules.set_row_height p.layout p.region h)

-- ---- RULES 4.16, next_widget_space_ignore_wrap_justify: the layout is asked even in a grid
unfoldable pub next_widget_space_ignore_wrap_justify : ℕ → Placer → Vec2 → Rect
next_widget_space_ignore_wrap_justify k p s = layout-rules.next_widget_space_ignore_wrap_justify k p.layout p.region s

-- ---- RULES 4.17, set_max_width, set_max_height: max_rect as wide as the next widget would be, but not below min_rect, and the cursor with
-- it
unfoldable pub limited_across : Region → Rect → Region
limited_across g r =
    let m = union (record { left = r.left; top = g.max_rect.top; right = r.right; bottom = g.max_rect.bottom }) g.min_rect in
    record { min_rect = g.min_rect; max_rect = m; cursor = record { left = m.left; top = g.cursor.top; right = m.right; bottom = g.cursor.bottom } }

unfoldable pub limited_down : Region → Rect → Region
limited_down g r =
    let m = union (record { left = g.max_rect.left; top = r.top; right = g.max_rect.right; bottom = r.bottom }) g.min_rect in
    record { min_rect = g.min_rect; max_rect = m; cursor = record { left = g.cursor.left; top = m.top; right = g.cursor.right; bottom = m.bottom } }

unfoldable pub set_max_width : ℕ → Placer → Float → Placer
set_max_width k p w = with_region p (limited_across p.region (next_widget_space_ignore_wrap_justify k p (record { x = w; y = zero_f })))

unfoldable pub set_max_height : ℕ → Placer → Float → Placer
set_max_height k p h = with_region p (limited_down p.region (next_widget_space_ignore_wrap_justify k p (record { x = zero_f; y = h })))

-- ---- RULES 4.18, set_min_width, set_min_height: what is not above zero asks for nothing
unfoldable pub grown_across : Placer → Rect → Placer
grown_across p r = expand_to_include_x (expand_to_include_x p r.left) r.right

unfoldable pub grown_down : Placer → Rect → Placer
grown_down p r = expand_to_include_y (expand_to_include_y p r.top) r.bottom

unfoldable pub set_min_width : ℕ → Placer → Float → Placer
set_min_width k p w = cond (le w zero_f) p (grown_across p (next_widget_space_ignore_wrap_justify k p (record { x = w; y = zero_f })))

unfoldable pub set_min_height : ℕ → Placer → Float → Placer
set_min_height k p h = cond (le h zero_f) p (grown_down p (next_widget_space_ignore_wrap_justify k p (record { x = zero_f; y = h })))
