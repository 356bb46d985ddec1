-- RULES 8.17: the public calls of placer.rs: the least number that applies to the arguments, or else to the answer, or else what the rule
-- gives. A state that the caller hands in is an argument like the others. Where a call rounds, the step is 1 / 2 ^ k point.
use Rattle.std.specs.Prelude.{ℕ, [], ◌∷◌, Float, Result}
use Rattle.emath.specs.Numbers as number
use Rattle.emath.specs.Refusals.{when, least, or_else, length_fault, extent_fault, pair_fault, size_fault, rect_fault, outside, answer}
use Rattle.region.specs.Refusals.{cursor_fault}
use Rattle.region.specs.Operations.{placed_number}
use Rattle.grid.specs.Refusals.{grid_fault, direction_fault, saved_answer}
use Rattle.grid.specs.declared.SavedAnswer.{SavedAnswer}
use Rattle.placer.specs.Rules.{new_placer, set_grid, save_grid, force_set_min_rect, set_cursor, align_size_within_rect, available_rect_before_wrap, available_size, next_space, next_widget_position, justify_and_align, advance_cursor, expand_to_include_rect, expand_to_include_x, expand_to_include_y, advance_after_rects, end_row, set_row_height, next_widget_space_ignore_wrap_justify, set_max_width, set_max_height, set_min_width, set_min_height}
use Rattle.placer.specs.Refusals.{placer_fault, advance_fault, end_row_fault, zero_placer, changed_placer}
use Rattle.placer.specs.declared.PlacerAnswer.{PlacerAnswer}
use Rattle.emath.specs.declared.Rect.{Rect}
use Rattle.emath.specs.declared.Pos2.{Pos2}
use Rattle.emath.specs.declared.Vec2.{Vec2}
use Rattle.layout.specs.declared.Layout.{Layout}
use Rattle.grid.specs.declared.GridLayout.{GridLayout}
use Rattle.placer.specs.declared.Placer.{Placer}

-- ---- RULES 8.17: a placer and its grid
unfoldable pub checked_new : ℕ → Rect → Layout → PlacerAnswer
checked_new k m l = changed_placer (rect_fault m) (zero_placer l) (new_placer k m l)

unfoldable pub checked_set_grid : Placer → GridLayout → PlacerAnswer
checked_set_grid p g = changed_placer (least (placer_fault p ∷ grid_fault g ∷ direction_fault p.layout.main_dir ∷ [])) p (set_grid p g)

-- refused, the memory is the one that the pass was given
unfoldable pub checked_save_grid : Placer → SavedAnswer
checked_save_grid p = saved_answer (placer_fault p) p.grid.prev_state (save_grid p)

-- ---- RULES 8.17: a rectangle of the region set anew
unfoldable pub checked_force_set_min_rect : Placer → Rect → PlacerAnswer
checked_force_set_min_rect p m = changed_placer (least (placer_fault p ∷ rect_fault m ∷ [])) p (force_set_min_rect p m)

unfoldable pub checked_set_cursor : Placer → Rect → PlacerAnswer
checked_set_cursor p c = changed_placer (least (placer_fault p ∷ cursor_fault p.layout.main_dir c ∷ [])) p (set_cursor p c)

-- ---- RULES 8.17: queries. Of each first its number, then what it answers.
unfoldable pub align_size_within_rect_number : ℕ → Placer → Vec2 → Rect → ℕ
align_size_within_rect_number k p s o = placed_number (least (placer_fault p ∷ size_fault s ∷ rect_fault o ∷ [])) (align_size_within_rect k p s o)

unfoldable pub checked_align_size_within_rect : ℕ → Placer → Vec2 → Rect → Result Rect ℕ
checked_align_size_within_rect k p s o = answer (align_size_within_rect_number k p s o) (align_size_within_rect k p s o)

unfoldable pub available_rect_before_wrap_number : ℕ → Placer → ℕ
available_rect_before_wrap_number k p = placed_number (placer_fault p) (available_rect_before_wrap k p)

unfoldable pub checked_available_rect_before_wrap : ℕ → Placer → Result Rect ℕ
checked_available_rect_before_wrap k p = answer (available_rect_before_wrap_number k p) (available_rect_before_wrap k p)

unfoldable pub available_size_number : Placer → ℕ
available_size_number p = or_else (placer_fault p) (outside (pair_fault (available_size p).x (available_size p).y))

unfoldable pub checked_available_size : Placer → Result Vec2 ℕ
checked_available_size p = answer (available_size_number p) (available_size p)

unfoldable pub next_space_number : ℕ → Placer → Vec2 → Vec2 → ℕ
next_space_number k p s sp = placed_number (least (placer_fault p ∷ size_fault s ∷ pair_fault sp.x sp.y ∷ [])) (next_space k p s sp)

unfoldable pub checked_next_space : ℕ → Placer → Vec2 → Vec2 → Result Rect ℕ
checked_next_space k p s sp = answer (next_space_number k p s sp) (next_space k p s sp)

unfoldable pub next_widget_position_number : ℕ → Placer → ℕ
next_widget_position_number k p = or_else (placer_fault p) (outside (pair_fault (next_widget_position k p).x (next_widget_position k p).y))

unfoldable pub checked_next_widget_position : ℕ → Placer → Result Pos2 ℕ
checked_next_widget_position k p = answer (next_widget_position_number k p) (next_widget_position k p)

unfoldable pub justify_and_align_number : ℕ → Placer → Rect → Vec2 → ℕ
justify_and_align_number k p r s = placed_number (least (placer_fault p ∷ rect_fault r ∷ size_fault s ∷ [])) (justify_and_align k p r s)

unfoldable pub checked_justify_and_align : ℕ → Placer → Rect → Vec2 → Result Rect ℕ
checked_justify_and_align k p r s = answer (justify_and_align_number k p r s) (justify_and_align k p r s)

-- ---- RULES 8.17: calls that move the cursor
-- 7 in a grid, by 0 too (RULES 8.11)
unfoldable pub checked_advance_cursor : Placer → Float → PlacerAnswer
checked_advance_cursor p a = changed_placer (least (placer_fault p ∷ length_fault a ∷ when p.has_grid number.not_in_grid ∷ [])) p (advance_cursor p a)

-- 8 in a grid that is full
unfoldable pub checked_advance_after_rects : Placer → Rect → Rect → Vec2 → PlacerAnswer
checked_advance_after_rects p f w sp =
    changed_placer (least (placer_fault p ∷ rect_fault f ∷ rect_fault w ∷ pair_fault sp.x sp.y ∷ advance_fault p ∷ [])) p (advance_after_rects p f w sp)

unfoldable pub checked_end_row : Placer → Vec2 → PlacerAnswer
checked_end_row p sp = changed_placer (least (placer_fault p ∷ pair_fault sp.x sp.y ∷ end_row_fault p ∷ [])) p (end_row p sp)

-- ---- RULES 8.17: the layout's and the region's calls, in a grid too
unfoldable pub checked_set_row_height : Placer → Float → PlacerAnswer
checked_set_row_height p h = changed_placer (least (placer_fault p ∷ length_fault h ∷ [])) p (set_row_height p h)

unfoldable pub checked_expand_to_include_rect : Placer → Rect → PlacerAnswer
checked_expand_to_include_rect p r = changed_placer (least (placer_fault p ∷ rect_fault r ∷ [])) p (expand_to_include_rect p r)

unfoldable pub checked_expand_to_include_x : Placer → Float → PlacerAnswer
checked_expand_to_include_x p x = changed_placer (least (placer_fault p ∷ length_fault x ∷ [])) p (expand_to_include_x p x)

unfoldable pub checked_expand_to_include_y : Placer → Float → PlacerAnswer
checked_expand_to_include_y p y = changed_placer (least (placer_fault p ∷ length_fault y ∷ [])) p (expand_to_include_y p y)

unfoldable pub next_widget_space_ignore_wrap_justify_number : ℕ → Placer → Vec2 → ℕ
next_widget_space_ignore_wrap_justify_number k p s = placed_number (least (placer_fault p ∷ size_fault s ∷ [])) (next_widget_space_ignore_wrap_justify k p s)

unfoldable pub checked_next_widget_space_ignore_wrap_justify : ℕ → Placer → Vec2 → Result Rect ℕ
checked_next_widget_space_ignore_wrap_justify k p s = answer (next_widget_space_ignore_wrap_justify_number k p s) (next_widget_space_ignore_wrap_justify k p s)

-- ---- RULES 8.17: limits
-- 6 for a largest width or height below zero (RULES 8.10)
unfoldable pub checked_set_max_width : ℕ → Placer → Float → PlacerAnswer
checked_set_max_width k p w = changed_placer (least (placer_fault p ∷ extent_fault w ∷ [])) p (set_max_width k p w)

unfoldable pub checked_set_max_height : ℕ → Placer → Float → PlacerAnswer
checked_set_max_height k p h = changed_placer (least (placer_fault p ∷ extent_fault h ∷ [])) p (set_max_height k p h)

-- a least width or height may be below zero
unfoldable pub checked_set_min_width : ℕ → Placer → Float → PlacerAnswer
checked_set_min_width k p w = changed_placer (least (placer_fault p ∷ length_fault w ∷ [])) p (set_min_width k p w)

unfoldable pub checked_set_min_height : ℕ → Placer → Float → PlacerAnswer
checked_set_min_height k p h = changed_placer (least (placer_fault p ∷ length_fault h ∷ [])) p (set_min_height k p h)
