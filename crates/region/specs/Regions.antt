-- RULES 2.3, 2.8: Region, its cursor set anew, and what it expands to include; and an edge set anew.
use Rattle.std.specs.Prelude.{Float, false}
use Rattle.std.specs.Float.{inf}
use Rattle.emath.specs.Rectangles.{zero_f, union, extend_with_x, extend_with_y}
use Rattle.emath.specs.declared.Rect.{Rect}
use Rattle.emath.specs.declared.Vec2.{Vec2}
use Rattle.region.specs.declared.Region.{Region}

-- RULES 2.10: where an open edge stands at first; its negative to the left and upward
abbrev pub infinity : Float
infinity = inf false

-- RULES 2.19: a size of nothing
abbrev pub zero_vec : Vec2
zero_vec = record { x = zero_f; y = zero_f }

-- RULES 2.10: one edge set anew, as in `cursor.min.x = …`
abbrev pub set_left : Rect → Float → Rect
set_left r v = record { left = v; top = r.top; right = r.right; bottom = r.bottom }

abbrev pub set_top : Rect → Float → Rect
set_top r v = record { left = r.left; top = v; right = r.right; bottom = r.bottom }

abbrev pub set_right : Rect → Float → Rect
set_right r v = record { left = r.left; top = r.top; right = v; bottom = r.bottom }

abbrev pub set_bottom : Rect → Float → Rect
set_bottom r v = record { left = r.left; top = r.top; right = r.right; bottom = v }

-- RULES 2.3: the cursor set anew
abbrev pub with_cursor : Region → Rect → Region
with_cursor g c = record { min_rect = g.min_rect; max_rect = g.max_rect; cursor = c }

-- RULES 2.8: a rectangle is taken into min_rect and max_rect; an x or a y into the cursor too
unfoldable pub expand_to_include_rect : Region → Rect → Region
expand_to_include_rect g r = record { min_rect = union g.min_rect r; max_rect = union g.max_rect r; cursor = g.cursor }

unfoldable pub expand_to_include_x : Region → Float → Region
expand_to_include_x g x = record { min_rect = extend_with_x g.min_rect x; max_rect = extend_with_x g.max_rect x; cursor = extend_with_x g.cursor x }

unfoldable pub expand_to_include_y : Region → Float → Region
expand_to_include_y g y = record { min_rect = extend_with_y g.min_rect y; max_rect = extend_with_y g.max_rect y; cursor = extend_with_y g.cursor y }
