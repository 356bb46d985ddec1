-- No cell of a grid is inside out, and no widget in it: for every step, every size that is not negative, whatever is remembered, from every
-- f32 corner, in every f32 frame. Assumes nothing.
use Rattle.std.proofs.Common.{◌≡◌, false, ℕ, T}
use Rattle.emath.specs.Rectangles.{max_f, from_min_size, align_within, left_center}
use Rattle.emath.specs.Domain.{at_least_zero, inside_out}
use Rattle.emath.specs.Binary32.{F32, RectF32}
use Rattle.emath.proofs.RoundOrder.{round-not-inside-out}
use Rattle.emath.proofs.Upright.{up-max, size-up, within-upright, corner-upright}
use Rattle.grid.specs.Grids.{next_width, prev_row_height, next_cell, align_size_within_rect}
use Rattle.emath.specs.declared.Rect.{Rect}
use Rattle.emath.specs.declared.Vec2.{Vec2}
use Rattle.emath.specs.declared.Pos2.{Pos2}
use Rattle.grid.specs.declared.GridLayout.{GridLayout}

pub next-cell-upright : (k : ℕ) (g : GridLayout) (c : Rect) (s : Vec2) → F32 c.left → F32 c.top → T (at_least_zero s) → inside_out (next_cell k g c s) ≡ false
unfolding next_cell
next-cell-upright k g c s x y h =
    let corner : Pos2 = record { x = c.left; y = c.top } in
    let z : Vec2 = record { x = max_f s.x (next_width g); y = max_f s.y (prev_row_height g g.row) } in
    let u = size-up s h in
    round-not-inside-out k (from_min_size corner z) (corner-upright corner z x y (up-max s.x (next_width g) u.0) (up-max s.y (prev_row_height g g.row) u.1))

pub widget-upright : (k : ℕ) (s : Vec2) (f : Rect) → RectF32 f → T (at_least_zero s) → inside_out (align_size_within_rect k s f) ≡ false
unfolding align_size_within_rect
widget-upright k s f e h = let u = size-up s h in round-not-inside-out k (align_within left_center s f) (within-upright left_center s f e u.0 u.1)
