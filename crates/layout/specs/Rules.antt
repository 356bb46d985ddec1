-- RULES 2.9 to 2.25: layout.rs, "Doing layout", function by function, before anything is refused. Where a call rounds, the step is
-- 1 / 2 ^ k point.
use Rattle.std.specs.Prelude.{ℕ, Bool, cond, not, ◌&&◌, ◌||◌, Float}
use Rattle.std.specs.Float.{nan, binary32}
use Rattle.std.specs.Float.Ieee.{neg, add, sub, lt}
use Rattle.emath.specs.Rectangles.{zero_f, one_f, min_f, max_f, at_least, width, height, size_of, center, midpoint, from_center_size, translate, intersect, union, intersects, shrink, align_within, with_x, with_y, round_rect}
use Rattle.region.specs.Directions.{is_horizontal}
use Rattle.region.specs.Regions.{infinity, zero_vec, set_left, set_top, set_right, set_bottom, with_cursor, expand_to_include_x, expand_to_include_y}
use Rattle.layout.specs.Layouts.{is_center, horizontal_align, vertical_align, align2, horizontal_justify, vertical_justify}
use Rattle.emath.specs.declared.Rect.{Rect}
use Rattle.emath.specs.declared.Vec2.{Vec2}
use Rattle.emath.specs.declared.Pos2.{Pos2}
use Rattle.emath.specs.declared.Rangef.{Rangef}
use Rattle.emath.specs.declared.Align2.{Align2}
use Rattle.emath.specs.declared.Align.TheVariants.{Min, Max}
use Rattle.region.specs.declared.Direction.{Direction}
use Rattle.region.specs.declared.Direction.TheVariants.{LeftToRight, RightToLeft, TopDown, BottomUp}
use Rattle.layout.specs.declared.Layout.{Layout}
use Rattle.region.specs.declared.Region.{Region}

-- ---- RULES 2.9, align_size_within_rect: by align2, and rounded
unfoldable pub align_size_within_rect : ℕ → Layout → Vec2 → Rect → Rect
align_size_within_rect k l size outer = round_rect k (align_within (align2 l) size outer)

-- ---- RULES 2.10, initial_cursor: max_rect with its open edge at the outward infinity
unfoldable pub initial_cursor : Direction → Rect → Rect
initial_cursor LeftToRight m = set_right m infinity
initial_cursor RightToLeft m = set_left m (neg infinity)
initial_cursor TopDown m = set_bottom m infinity
initial_cursor BottomUp m = set_top m (neg infinity)

-- ---- RULES 2.11, available_from_cursor_max_rect
-- max_rect from the cursor on
unfoldable pub from_cursor : Direction → Rect → Rect → Rect
from_cursor LeftToRight c m = record { left = c.left; top = m.top; right = max_f (max_f m.right c.left) c.left; bottom = max_f m.bottom m.top }
from_cursor RightToLeft c m = record { left = min_f (min_f m.left c.right) c.right; top = m.top; right = c.right; bottom = max_f m.bottom m.top }
from_cursor TopDown c m = record { left = m.left; top = c.top; right = max_f m.right m.left; bottom = max_f (max_f m.bottom c.top) c.top }
from_cursor BottomUp c m = record { left = m.left; top = min_f (min_f m.top c.bottom) c.bottom; right = max_f m.right m.left; bottom = c.bottom }

-- both ends are the midpoint where the range is inside out
unfoldable pub not_negative : Float → Float → Rangef
not_negative low high = cond (lt high low) (record { min = midpoint low high; max = midpoint low high }) (record { min = low; max = high })

unfoldable pub not_negative_rect : Rect → Rect
not_negative_rect r = record {
  left = (not_negative r.left r.right).min;
  top = (not_negative r.top r.bottom).min;
  right = (not_negative r.left r.right).max;
  bottom = (not_negative r.top r.bottom).max;
}

-- RULES 2.11: cut to the cursor
unfoldable pub available_from_cursor_max_rect : Direction → Rect → Rect → Rect
available_from_cursor_max_rect d c m = not_negative_rect (intersect (from_cursor d c m) c)

-- ---- RULES 2.12, available_rect_before_wrap
unfoldable pub available_rect_before_wrap : Direction → Region → Rect
available_rect_before_wrap d g = available_from_cursor_max_rect d g.cursor g.max_rect

-- RULES 2.12, available_size: with wrap it is a whole row or column
unfoldable pub available_size : Layout → Region → Vec2
available_size l g =
    cond l.main_wrap
    (cond (is_horizontal l.main_dir)
    (record { x = width g.max_rect; y = height g.cursor })
    (record { x = width g.cursor; y = height g.max_rect }))
    (size_of (available_rect_before_wrap l.main_dir g))

-- ---- RULES 2.13: the child is longer than what is left, and the cursor has moved on from the starting edge; a child that just fits stays
unfoldable pub overflows : Direction → Rect → Region → Vec2 → Bool
overflows LeftToRight a g s = lt (width a) s.x && lt g.max_rect.left g.cursor.left
overflows RightToLeft a g s = lt (width a) s.x && lt g.cursor.right g.max_rect.right
overflows TopDown a g s = lt (height a) s.y && lt g.max_rect.top g.cursor.top
overflows BottomUp a g s = lt (height a) s.y && lt g.cursor.bottom g.max_rect.bottom

-- ---- RULES 2.14: a new row starts below min_rect, a new column right of the cursor; each is at least as large across as cursor and child
unfoldable pub new_row : Region → Vec2 → Vec2 → Rangef
new_row g s sp = record {
  min = add binary32 g.min_rect.bottom sp.y;
  max = add binary32 (add binary32 g.min_rect.bottom sp.y) (max_f (height g.cursor) s.y);
}

unfoldable pub new_column : Region → Vec2 → Vec2 → Rangef
new_column g s sp = record {
  min = add binary32 g.cursor.right sp.x;
  max = add binary32 (add binary32 g.cursor.right sp.x) (max_f (width g.cursor) s.x);
}

-- RULES 2.14: from max_rect's starting edge on, the open edge infinite
unfoldable pub new_cursor : Direction → Region → Vec2 → Vec2 → Rect
new_cursor LeftToRight g s sp = record { left = g.max_rect.left; top = (new_row g s sp).min; right = infinity; bottom = (new_row g s sp).max }
new_cursor RightToLeft g s sp = record { left = neg infinity; top = (new_row g s sp).min; right = g.max_rect.right; bottom = (new_row g s sp).max }
new_cursor TopDown g s sp = record { left = (new_column g s sp).min; top = g.max_rect.top; right = (new_column g s sp).max; bottom = infinity }
new_cursor BottomUp g s sp = record { left = (new_column g s sp).min; top = neg infinity; right = (new_column g s sp).max; bottom = g.max_rect.bottom }

-- RULES 2.14: max_rect reaches the new row's bottom, or the new column's right
unfoldable pub reaching : Bool → Rect → Rect → Rect
reaching h m c = cond h (set_bottom m (max_f m.bottom c.bottom)) (set_right m (max_f m.right c.right))

unfoldable pub new_region : Direction → Region → Vec2 → Vec2 → Region
new_region d g s sp = record {
  min_rect = g.min_rect;
  max_rect = reaching (is_horizontal d) g.max_rect (new_cursor d g s sp);
  cursor = new_cursor d g s sp;
}

-- ---- RULES 2.16: a frame's size
-- all the room across a row or column that is centred there, and on an axis that is justified
unfoldable pub fills_width : Layout → Bool
fills_width l = (not (is_horizontal l.main_dir) && is_center (horizontal_align l)) || horizontal_justify l

unfoldable pub fills_height : Layout → Bool
fills_height l = (is_horizontal l.main_dir && is_center (vertical_align l)) || vertical_justify l

-- RULES 2.16: the child's, or the full one if that is larger: the cursor's with wrap, else what is available
unfoldable pub frame_width : Layout → Rect → Rect → Float → Float
frame_width l c a w = cond (fills_width l) (max_f w (cond l.main_wrap (width c) (width a))) w

unfoldable pub frame_height : Layout → Rect → Rect → Float → Float
frame_height l c a h = cond (fills_height l) (max_f h (cond l.main_wrap (height c) (height a))) h

-- ---- RULES 2.17, next_frame_ignore_wrap: a frame's place
-- at the starting edge on the main axis
unfoldable pub frame_align2 : Direction → Align2 → Align2
frame_align2 LeftToRight a = with_x a Min
frame_align2 RightToLeft a = with_x a Max
frame_align2 TopDown a = with_y a Min
frame_align2 BottomUp a = with_y a Max

-- RULES 2.17: a horizontal layout's frame that is above the cursor's top is moved down to it, and by 0 across. The Rust has 0 times the
-- distance there, which is the same unless the distance is infinite, and then NaN; with arguments of the domain both tops are finite.
unfoldable pub moved_down : Bool → Rect → Rect → Rect
moved_down h f c = cond (h && lt f.top c.top) (translate f (record { x = zero_f; y = sub binary32 c.top f.top })) f

-- RULES 2.17: of that size and so aligned in what is available
unfoldable pub frame_rect : Layout → Rect → Rect → Vec2 → Rect
frame_rect l c a s =
    moved_down (is_horizontal l.main_dir)
    (align_within (frame_align2 l.main_dir (align2 l)) (record { x = frame_width l c a s.x; y = frame_height l c a s.y }) a)
    c

-- RULES 2.17: its edges rounded
unfoldable pub next_frame_ignore_wrap : ℕ → Layout → Region → Vec2 → Rect
next_frame_ignore_wrap k l g s = round_rect k (frame_rect l g.cursor (available_rect_before_wrap l.main_dir g) s)

-- ---- RULES 2.13: only where the layout wraps at all
unfoldable pub wraps : Layout → Region → Vec2 → Bool
wraps l g s = l.main_wrap && overflows l.main_dir (available_rect_before_wrap l.main_dir g) g s

-- ---- RULES 2.15, next_frame: in the new row or column if the child wraps, else in the region as it is
unfoldable pub next_frame : ℕ → Layout → Region → Vec2 → Vec2 → Rect
next_frame k l g s sp = next_frame_ignore_wrap k l (cond (wraps l g s) (new_region l.main_dir g s sp) g) s

-- ---- RULES 2.18, justify_and_align: a justified child is at least as large as its frame
unfoldable pub raised : Bool → Float → Float → Float
raised b length full = cond b (at_least length full) length

unfoldable pub justify_and_align : ℕ → Layout → Rect → Vec2 → Rect
justify_and_align k l f s =
    align_size_within_rect k l (record { x = raised (horizontal_justify l) s.x (width f); y = raised (vertical_justify l) s.y (height f) }) f

-- ---- RULES 2.19, next_widget_space_ignore_wrap_justify; next_widget_position is the middle of a widget of no size
unfoldable pub next_widget_space_ignore_wrap_justify : ℕ → Layout → Region → Vec2 → Rect
next_widget_space_ignore_wrap_justify k l g size = align_size_within_rect k l size (next_frame_ignore_wrap k l g size)

unfoldable pub next_widget_position : ℕ → Layout → Region → Pos2
next_widget_position k l g = center (next_widget_space_ignore_wrap_justify k l g zero_vec)

-- ---- RULES 2.20, region_from_max_rect: min_rect is one point; it is not read before it is set
unfoldable pub region_from_max_rect : ℕ → Layout → Rect → Region
region_from_max_rect k l m = record {
  min_rect = from_center_size (next_widget_position k l (record { min_rect = m; max_rect = m; cursor = initial_cursor l.main_dir m })) zero_vec;
  max_rect = m;
  cursor = initial_cursor l.main_dir m;
}

-- ---- RULES 2.21, advance_cursor: the starting edge moves on, and the region takes it in
unfoldable pub advance_cursor : Direction → Region → Float → Region
advance_cursor LeftToRight g a = expand_to_include_x (with_cursor g (set_left g.cursor (add binary32 g.cursor.left a))) (add binary32 g.cursor.left a)
advance_cursor RightToLeft g a = expand_to_include_x (with_cursor g (set_right g.cursor (sub binary32 g.cursor.right a))) (sub binary32 g.cursor.right a)
advance_cursor TopDown g a = expand_to_include_y (with_cursor g (set_top g.cursor (add binary32 g.cursor.top a))) (add binary32 g.cursor.top a)
advance_cursor BottomUp g a = expand_to_include_y (with_cursor g (set_bottom g.cursor (sub binary32 g.cursor.bottom a))) (sub binary32 g.cursor.bottom a)

-- ---- advance_after_rects
-- RULES 2.22: the cursor touches the frame even when that is made smaller by a point on each side
unfoldable pub stays_in_row : Rect → Rect → Bool
stays_in_row c f = intersects c (shrink f one_f)

-- RULES 2.22: a new row or column; where NaN stands `past_widget` puts the starting edge
unfoldable pub row_started : Direction → Rect → Rect
row_started LeftToRight f = record { left = nan; top = f.top; right = infinity; bottom = f.bottom }
row_started RightToLeft f = record { left = neg infinity; top = f.top; right = nan; bottom = f.bottom }
row_started TopDown f = record { left = f.left; top = nan; right = f.right; bottom = infinity }
row_started BottomUp f = record { left = f.left; top = neg infinity; right = f.right; bottom = nan }

-- RULES 2.22: without wrap: the cursor with the frame across
unfoldable pub grown_across : Bool → Rect → Rect → Rect
grown_across h c f = cond h
    (record { left = c.left; top = min_f c.top f.top; right = c.right; bottom = max_f c.bottom f.bottom })
    (record { left = min_f c.left f.left; top = c.top; right = max_f c.right f.right; bottom = c.bottom })

-- RULES 2.22: the row or column that the frame is in
unfoldable pub row_for : Layout → Rect → Rect → Rect
row_for l c f =
    cond l.main_wrap
    (cond (stays_in_row c f) (union c f) (row_started l.main_dir f))
    (grown_across (is_horizontal l.main_dir) c f)

-- RULES 2.23: the starting edge goes behind the widget and the spacing
unfoldable pub past_widget : Direction → Rect → Rect → Vec2 → Rect
past_widget LeftToRight c w sp = set_left c (add binary32 w.right sp.x)
past_widget RightToLeft c w sp = set_right c (sub binary32 w.left sp.x)
past_widget TopDown c w sp = set_top c (add binary32 w.bottom sp.y)
past_widget BottomUp c w sp = set_bottom c (sub binary32 w.top sp.y)

unfoldable pub advance_after_rects : Layout → Rect → Rect → Rect → Vec2 → Rect
advance_after_rects l c f w sp = past_widget l.main_dir (row_for l c f) w sp

-- ---- RULES 2.24, end_row: a row below the cursor; columns have no such end, nor has a row that does not wrap
unfoldable pub next_row : Direction → Region → Vec2 → Region
next_row LeftToRight g sp = with_cursor g (record { left = g.max_rect.left; top = add binary32 g.cursor.bottom sp.y; right = infinity; bottom = add binary32 g.cursor.bottom sp.y })
next_row RightToLeft g sp = with_cursor g (record { left = neg infinity; top = add binary32 g.cursor.bottom sp.y; right = g.max_rect.right; bottom = add binary32 g.cursor.bottom sp.y })
next_row TopDown g sp = g
next_row BottomUp g sp = g

unfoldable pub end_row : Layout → Region → Vec2 → Region
end_row l g sp = cond l.main_wrap (next_row l.main_dir g sp) g

-- ---- RULES 2.25, set_row_height: of a row that wraps
unfoldable pub set_row_height : Layout → Region → Float → Region
set_row_height l g h = cond (l.main_wrap && is_horizontal l.main_dir) (with_cursor g (set_bottom g.cursor (add binary32 g.cursor.top h))) g
