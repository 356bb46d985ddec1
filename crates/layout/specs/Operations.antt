-- RULES 8.15: the public calls of layout.rs: the least number that applies to the arguments, or else to the answer, or else what the rule
-- gives. A state that the caller hands in is an argument like the others. Where a call rounds, the step is 1 / 2 ^ k point.
use Rattle.std.specs.Prelude.{ℕ, [], ◌∷◌, Float, Result}
use Rattle.emath.specs.Refusals.{least, or_else, length_fault, pair_fault, size_fault, rect_fault, outside, answer}
use Rattle.layout.specs.Rules.{align_size_within_rect, initial_cursor, available_from_cursor_max_rect, available_rect_before_wrap, available_size, next_frame_ignore_wrap, next_frame, justify_and_align, next_widget_space_ignore_wrap_justify, next_widget_position, region_from_max_rect, advance_cursor, advance_after_rects, end_row, set_row_height}
use Rattle.region.specs.Operations.{placed_number, changed_region}
use Rattle.region.specs.Refusals.{cursor_fault, region_fault, zero_region, cursor_answer}
use Rattle.region.specs.declared.RegionAnswer.{RegionAnswer}
use Rattle.region.specs.declared.CursorAnswer.{CursorAnswer}
use Rattle.emath.specs.declared.Rect.{Rect}
use Rattle.emath.specs.declared.Pos2.{Pos2}
use Rattle.emath.specs.declared.Vec2.{Vec2}
use Rattle.layout.specs.declared.Layout.{Layout}
use Rattle.region.specs.declared.Region.{Region}

-- ---- RULES 8.15: a size in a rectangle. Of each call first its number, then what it answers.
unfoldable pub align_size_within_rect_number : ℕ → Layout → Vec2 → Rect → ℕ
align_size_within_rect_number k l size outer = placed_number (least (size_fault size ∷ rect_fault outer ∷ [])) (align_size_within_rect k l size outer)

unfoldable pub checked_align_size_within_rect : ℕ → Layout → Vec2 → Rect → Result Rect ℕ
checked_align_size_within_rect k l size outer = answer (align_size_within_rect_number k l size outer) (align_size_within_rect k l size outer)

-- ---- RULES 8.15: what a layout begins with
-- the answer is a cursor, whose open edge is infinite
unfoldable pub initial_cursor_number : Layout → Rect → ℕ
initial_cursor_number l m = or_else (rect_fault m) (outside (cursor_fault l.main_dir (initial_cursor l.main_dir m)))

unfoldable pub checked_initial_cursor : Layout → Rect → Result Rect ℕ
checked_initial_cursor l m = answer (initial_cursor_number l m) (initial_cursor l.main_dir m)

-- there is no given region: a refused one is all zero
unfoldable pub checked_region_from_max_rect : ℕ → Layout → Rect → RegionAnswer
checked_region_from_max_rect k l m = changed_region l.main_dir (rect_fault m) zero_region (region_from_max_rect k l m)

-- ---- RULES 8.15: what is available
unfoldable pub available_rect_before_wrap_number : Layout → Region → ℕ
available_rect_before_wrap_number l g = placed_number (region_fault l.main_dir g) (available_rect_before_wrap l.main_dir g)

unfoldable pub checked_available_rect_before_wrap : Layout → Region → Result Rect ℕ
checked_available_rect_before_wrap l g = answer (available_rect_before_wrap_number l g) (available_rect_before_wrap l.main_dir g)

unfoldable pub available_size_number : Layout → Region → ℕ
available_size_number l g = or_else (region_fault l.main_dir g) (outside (pair_fault (available_size l g).x (available_size l g).y))

unfoldable pub checked_available_size : Layout → Region → Result Vec2 ℕ
checked_available_size l g = answer (available_size_number l g) (available_size l g)

unfoldable pub available_from_cursor_max_rect_number : Layout → Rect → Rect → ℕ
available_from_cursor_max_rect_number l c m = placed_number (least (cursor_fault l.main_dir c ∷ rect_fault m ∷ [])) (available_from_cursor_max_rect l.main_dir c m)

unfoldable pub checked_available_from_cursor_max_rect : Layout → Rect → Rect → Result Rect ℕ
checked_available_from_cursor_max_rect l c m = answer (available_from_cursor_max_rect_number l c m) (available_from_cursor_max_rect l.main_dir c m)

-- ---- RULES 8.15: frames
unfoldable pub next_frame_number : ℕ → Layout → Region → Vec2 → Vec2 → ℕ
next_frame_number k l g s sp = placed_number (least (region_fault l.main_dir g ∷ size_fault s ∷ pair_fault sp.x sp.y ∷ [])) (next_frame k l g s sp)

unfoldable pub checked_next_frame : ℕ → Layout → Region → Vec2 → Vec2 → Result Rect ℕ
checked_next_frame k l g s sp = answer (next_frame_number k l g s sp) (next_frame k l g s sp)

unfoldable pub next_frame_ignore_wrap_number : ℕ → Layout → Region → Vec2 → ℕ
next_frame_ignore_wrap_number k l g s = placed_number (least (region_fault l.main_dir g ∷ size_fault s ∷ [])) (next_frame_ignore_wrap k l g s)

unfoldable pub checked_next_frame_ignore_wrap : ℕ → Layout → Region → Vec2 → Result Rect ℕ
checked_next_frame_ignore_wrap k l g s = answer (next_frame_ignore_wrap_number k l g s) (next_frame_ignore_wrap k l g s)

-- ---- RULES 8.15: widgets
unfoldable pub justify_and_align_number : ℕ → Layout → Rect → Vec2 → ℕ
justify_and_align_number k l f s = placed_number (least (rect_fault f ∷ size_fault s ∷ [])) (justify_and_align k l f s)

unfoldable pub checked_justify_and_align : ℕ → Layout → Rect → Vec2 → Result Rect ℕ
checked_justify_and_align k l f s = answer (justify_and_align_number k l f s) (justify_and_align k l f s)

unfoldable pub next_widget_space_ignore_wrap_justify_number : ℕ → Layout → Region → Vec2 → ℕ
next_widget_space_ignore_wrap_justify_number k l g s = placed_number (least (region_fault l.main_dir g ∷ size_fault s ∷ [])) (next_widget_space_ignore_wrap_justify k l g s)

unfoldable pub checked_next_widget_space_ignore_wrap_justify : ℕ → Layout → Region → Vec2 → Result Rect ℕ
checked_next_widget_space_ignore_wrap_justify k l g s = answer (next_widget_space_ignore_wrap_justify_number k l g s) (next_widget_space_ignore_wrap_justify k l g s)

unfoldable pub next_widget_position_number : ℕ → Layout → Region → ℕ
next_widget_position_number k l g = or_else (region_fault l.main_dir g) (outside (pair_fault (next_widget_position k l g).x (next_widget_position k l g).y))

unfoldable pub checked_next_widget_position : ℕ → Layout → Region → Result Pos2 ℕ
checked_next_widget_position k l g = answer (next_widget_position_number k l g) (next_widget_position k l g)

-- ---- RULES 8.15: a region or a cursor that is new, or as it was given where the call is refused
unfoldable pub checked_advance_cursor : Layout → Region → Float → RegionAnswer
checked_advance_cursor l g a =
    changed_region l.main_dir (least (region_fault l.main_dir g ∷ length_fault a ∷ [])) g (advance_cursor l.main_dir g a)

unfoldable pub checked_advance_after_rects : Layout → Rect → Rect → Rect → Vec2 → CursorAnswer
checked_advance_after_rects l c f w sp =
    cursor_answer
    (or_else
    (least (cursor_fault l.main_dir c ∷ rect_fault f ∷ rect_fault w ∷ pair_fault sp.x sp.y ∷ []))
    (outside (cursor_fault l.main_dir (advance_after_rects l c f w sp))))
    c (advance_after_rects l c f w sp)

unfoldable pub checked_end_row : Layout → Region → Vec2 → RegionAnswer
checked_end_row l g sp = changed_region l.main_dir (least (region_fault l.main_dir g ∷ pair_fault sp.x sp.y ∷ [])) g (end_row l g sp)

unfoldable pub checked_set_row_height : Layout → Region → Float → RegionAnswer
checked_set_row_height l g h = changed_region l.main_dir (least (region_fault l.main_dir g ∷ length_fault h ∷ [])) g (set_row_height l g h)
