-- RULES 2.1 to 2.7: a layout's constructors, builders and inspectors.
use Rattle.std.specs.Prelude.{Bool, true, false, cond, not, ◌&&◌, ◌||◌}
use Rattle.region.specs.Directions.{is_horizontal}
use Rattle.emath.specs.declared.Align.{Align}
use Rattle.emath.specs.declared.Align.TheVariants.{Min, Center, Max}
use Rattle.emath.specs.declared.Align2.{Align2}
use Rattle.region.specs.declared.Direction.{Direction}
use Rattle.region.specs.declared.Direction.TheVariants.{LeftToRight, RightToLeft, TopDown, BottomUp}
use Rattle.layout.specs.declared.Layout.{Layout}

-- ---- RULES 2.4: constructors
-- left_to_right, right_to_left, top_down, bottom_up, from_main_dir_and_cross_align: no wrap, no justify, centred on the main axis.
-- default is top_down with Min; top_down_justified is top_down with the cross axis justified.
abbrev pub plain : Direction → Align → Layout
plain d a = record { main_dir = d; main_wrap = false; main_align = Center; main_justify = false; cross_align = a; cross_justify = false }

abbrev pub centered_and_justified : Direction → Layout
centered_and_justified d = record { main_dir = d; main_wrap = false; main_align = Center; main_justify = true; cross_align = Center; cross_justify = true }

-- ---- RULES 2.5: builders, each for one field
abbrev pub with_main_wrap : Layout → Bool → Layout
with_main_wrap l b = record { main_dir = l.main_dir; main_wrap = b; main_align = l.main_align; main_justify = l.main_justify; cross_align = l.cross_align; cross_justify = l.cross_justify }

abbrev pub with_main_align : Layout → Align → Layout
with_main_align l a = record { main_dir = l.main_dir; main_wrap = l.main_wrap; main_align = a; main_justify = l.main_justify; cross_align = l.cross_align; cross_justify = l.cross_justify }

abbrev pub with_cross_align : Layout → Align → Layout
with_cross_align l a = record { main_dir = l.main_dir; main_wrap = l.main_wrap; main_align = l.main_align; main_justify = l.main_justify; cross_align = a; cross_justify = l.cross_justify }

abbrev pub with_main_justify : Layout → Bool → Layout
with_main_justify l b = record { main_dir = l.main_dir; main_wrap = l.main_wrap; main_align = l.main_align; main_justify = b; cross_align = l.cross_align; cross_justify = l.cross_justify }

abbrev pub with_cross_justify : Layout → Bool → Layout
with_cross_justify l b = record { main_dir = l.main_dir; main_wrap = l.main_wrap; main_align = l.main_align; main_justify = l.main_justify; cross_align = l.cross_align; cross_justify = b }

-- ---- inspectors
-- RULES 2.1: frames go from right to left
unfoldable pub is_right_to_left : Direction → Bool
is_right_to_left LeftToRight = false
is_right_to_left RightToLeft = true
is_right_to_left TopDown = false
is_right_to_left BottomUp = false

-- RULES 2.2: which Align it is
unfoldable pub is_center : Align → Bool
is_center Min = false
is_center Center = true
is_center Max = false

unfoldable pub is_max : Align → Bool
is_max Min = false
is_max Center = false
is_max Max = true

-- RULES 2.6: a row from right to left, or a column that is aligned at the right
unfoldable pub prefer_right_to_left : Layout → Bool
prefer_right_to_left l = is_right_to_left l.main_dir || (not (is_horizontal l.main_dir) && is_max l.cross_align)

-- RULES 2.6: a row's starting edge, or a column's cross align
unfoldable pub placement : Direction → Align → Align
placement LeftToRight a = Min
placement RightToLeft a = Max
placement TopDown a = a
placement BottomUp a = a

abbrev pub horizontal_placement : Layout → Align
horizontal_placement l = placement l.main_dir l.cross_align

-- RULES 2.7: in a row the main one is across and the cross one down, in a column the other way round
unfoldable pub horizontal_align : Layout → Align
horizontal_align l = cond (is_horizontal l.main_dir) l.main_align l.cross_align

unfoldable pub vertical_align : Layout → Align
vertical_align l = cond (not (is_horizontal l.main_dir)) l.main_align l.cross_align

unfoldable pub align2 : Layout → Align2
align2 l = record { x = horizontal_align l; y = vertical_align l }

unfoldable pub horizontal_justify : Layout → Bool
horizontal_justify l = cond (is_horizontal l.main_dir) l.main_justify l.cross_justify

unfoldable pub vertical_justify : Layout → Bool
vertical_justify l = cond (not (is_horizontal l.main_dir)) l.main_justify l.cross_justify
