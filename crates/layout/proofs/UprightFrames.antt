-- No frame of a layout is inside out, and no widget in it: for every step, layout and spacing, every size that is not negative, and every
-- region whose max_rect and cursor are f32, on the step or off it, of the domain or not. Assumes nothing.
use mathlib.Core.Path.{◌≡◌}
use mathlib.Core.Bool.{Bool, true, false, cond, ◌&&◌}
use Prim.Native.Nat.{ℕ}
use lib.Dec.{T}
use lib.Ieee.{Float, binary32, sub, lt}
use Rattle.emath.specs.Rectangles.{zero_f, max_f, width, height, midpoint, translate, intersect, align_within}
use Rattle.emath.specs.Domain.{at_least_zero, inside_out}
use Rattle.emath.specs.Binary32.{F32, RectF32}
use Rattle.emath.proofs.RoundOrder.{round-not-inside-out}
use Rattle.emath.proofs.Binary32.{sum-f32, midpoint-f32, infinity-f32, neg-infinity-f32, min-f32, max-f32, intersect-f32}
use Rattle.emath.proofs.Upright.{Up, up-max, size-up, within-upright, translate-upright}
use Rattle.region.specs.Directions.{is_horizontal}
use Rattle.layout.specs.Layouts.{align2, horizontal_justify, vertical_justify}
use Rattle.layout.specs.Rules.{align_size_within_rect, from_cursor, not_negative, not_negative_rect, available_from_cursor_max_rect, available_rect_before_wrap, new_row, new_column, new_cursor, reaching, new_region, fills_width, fills_height, frame_width, frame_height, frame_align2, moved_down, frame_rect, next_frame_ignore_wrap, wraps, next_frame, raised, justify_and_align}
use Rattle.emath.specs.declared.Rect.{Rect}
use Rattle.emath.specs.declared.Vec2.{Vec2}
use Rattle.emath.specs.declared.Rangef.{Rangef}
use Rattle.region.specs.declared.Direction.{Direction}
use Rattle.region.specs.declared.Direction.TheVariants.{LeftToRight, RightToLeft, TopDown, BottomUp}
use Rattle.region.specs.declared.Region.{Region}
use Rattle.layout.specs.declared.Layout.{Layout}

-- ---- what is available has f32 edges
not-negative-f32 : (low high : Float) → F32 low → F32 high → F32 (not_negative low high).min × F32 (not_negative low high).max
unfolding not_negative
not-negative-f32 low high f g = go (lt high low)
  where
    go : (b : Bool) → F32 (cond {A = Rangef} b (record { min = midpoint low high; max = midpoint low high }) (record { min = low; max = high })).min × F32 (cond {A = Rangef} b (record { min = midpoint low high; max = midpoint low high }) (record { min = low; max = high })).max
    go true = (midpoint-f32 low high, midpoint-f32 low high)
    go false = (f, g)

not-negative-rect-f32 : (r : Rect) → RectF32 r → RectF32 (not_negative_rect r)
unfolding not_negative_rect
not-negative-rect-f32 r f =
    let x = not-negative-f32 r.left r.right f.left f.right in
    let y = not-negative-f32 r.top r.bottom f.top f.bottom in
    record { left = x.0; top = y.0; right = x.1; bottom = y.1 }

from-cursor-f32 : (d : Direction) (c m : Rect) → RectF32 c → RectF32 m → RectF32 (from_cursor d c m)
unfolding from_cursor
from-cursor-f32 LeftToRight c m f g = record { left = f.left; top = g.top; right = max-f32 (max-f32 g.right f.left) f.left; bottom = max-f32 g.bottom g.top }
from-cursor-f32 RightToLeft c m f g = record { left = min-f32 (min-f32 g.left f.right) f.right; top = g.top; right = f.right; bottom = max-f32 g.bottom g.top }
from-cursor-f32 TopDown c m f g = record { left = g.left; top = f.top; right = max-f32 g.right g.left; bottom = max-f32 (max-f32 g.bottom f.top) f.top }
from-cursor-f32 BottomUp c m f g = record { left = g.left; top = min-f32 (min-f32 g.top f.bottom) f.bottom; right = max-f32 g.right g.left; bottom = f.bottom }

available-f32 : (d : Direction) (g : Region) → RectF32 g.max_rect → RectF32 g.cursor → RectF32 (available_rect_before_wrap d g)
unfolding available_rect_before_wrap available_from_cursor_max_rect
available-f32 d g m c =
    not-negative-rect-f32 (intersect (from_cursor d g.cursor g.max_rect) g.cursor) (intersect-f32 (from-cursor-f32 d g.cursor g.max_rect c m) c)

-- ---- a frame is no shorter than its child
chosen : (b : Bool) (v w : Float) → Up v → Up w → Up (cond b v w)
chosen true v w u h = u
chosen false v w u h = h

width-up : (L : Layout) (c a : Rect) (w : Float) → Up w → Up (frame_width L c a w)
unfolding frame_width
width-up L c a w h = chosen (fills_width L) (max_f w (cond L.main_wrap (width c) (width a))) w (up-max w (cond L.main_wrap (width c) (width a)) h) h

height-up : (L : Layout) (c a : Rect) (w : Float) → Up w → Up (frame_height L c a w)
unfolding frame_height
height-up L c a w h = chosen (fills_height L) (max_f w (cond L.main_wrap (height c) (height a))) w (up-max w (cond L.main_wrap (height c) (height a)) h) h

-- ---- next_frame_ignore_wrap
moved-upright : (h : Bool) (f c : Rect) → inside_out f ≡ false → inside_out (moved_down h f c) ≡ false
unfolding moved_down
moved-upright h f c k = go (h && lt f.top c.top)
  where
    d : Vec2
    d = record { x = zero_f; y = sub binary32 c.top f.top }

    go : (b : Bool) → inside_out (cond b (translate f d) f) ≡ false
    go true = translate-upright f d k
    go false = k

pub ignore-wrap-upright : (k : ℕ) (L : Layout) (g : Region) (s : Vec2) → RectF32 g.max_rect → RectF32 g.cursor → T (at_least_zero s) → inside_out (next_frame_ignore_wrap k L g s) ≡ false
unfolding next_frame_ignore_wrap frame_rect
ignore-wrap-upright k L g s m c h =
    let a = available_rect_before_wrap L.main_dir g in
    let z : Vec2 = record { x = frame_width L g.cursor a s.x; y = frame_height L g.cursor a s.y } in
    let r = align_within (frame_align2 L.main_dir (align2 L)) z a in
    let u = size-up s h in
    round-not-inside-out k (moved_down (is_horizontal L.main_dir) r g.cursor)
    (moved-upright (is_horizontal L.main_dir) r g.cursor
    (within-upright (frame_align2 L.main_dir (align2 L)) z a (available-f32 L.main_dir g m c) (width-up L g.cursor a s.x u.0) (height-up L g.cursor a s.y u.1)))

-- ---- next_frame: a new row's or column's edges are f32 too
new-cursor-f32 : (d : Direction) (g : Region) (s sp : Vec2) → RectF32 g.max_rect → RectF32 (new_cursor d g s sp)
unfolding new_cursor new_row new_column
new-cursor-f32 LeftToRight g s sp m = record { left = m.left; top = sum-f32 _ _; right = infinity-f32 false; bottom = sum-f32 _ _ }
new-cursor-f32 RightToLeft g s sp m = record { left = neg-infinity-f32; top = sum-f32 _ _; right = m.right; bottom = sum-f32 _ _ }
new-cursor-f32 TopDown g s sp m = record { left = sum-f32 _ _; top = m.top; right = sum-f32 _ _; bottom = infinity-f32 false }
new-cursor-f32 BottomUp g s sp m = record { left = sum-f32 _ _; top = neg-infinity-f32; right = sum-f32 _ _; bottom = m.bottom }

reaching-f32 : (h : Bool) (m c : Rect) → RectF32 m → RectF32 c → RectF32 (reaching h m c)
unfolding reaching
reaching-f32 true m c f g = record { left = f.left; top = f.top; right = f.right; bottom = max-f32 f.bottom g.bottom }
reaching-f32 false m c f g = record { left = f.left; top = f.top; right = max-f32 f.right g.right; bottom = f.bottom }

new-region-upright : (k : ℕ) (L : Layout) (g : Region) (s sp : Vec2) → RectF32 g.max_rect → T (at_least_zero s) → inside_out (next_frame_ignore_wrap k L (new_region L.main_dir g s sp) s) ≡ false
unfolding new_region
new-region-upright k L g s sp m h =
    let d = L.main_dir in
    let c = new-cursor-f32 d g s sp m in
    ignore-wrap-upright k L (new_region d g s sp) s (reaching-f32 (is_horizontal d) g.max_rect (new_cursor d g s sp) m c) c h

pub next-frame-upright : (k : ℕ) (L : Layout) (g : Region) (s sp : Vec2) → RectF32 g.max_rect → RectF32 g.cursor → T (at_least_zero s) → inside_out (next_frame k L g s sp) ≡ false
unfolding next_frame
next-frame-upright k L g s sp m c h = go (wraps L g s)
  where
    go : (b : Bool) → inside_out (next_frame_ignore_wrap k L (cond b (new_region L.main_dir g s sp) g) s) ≡ false
    go true = new-region-upright k L g s sp m h
    go false = ignore-wrap-upright k L g s m c h

-- ---- justify_and_align: the widget is no shorter than the child either
raised-up : (b : Bool) (length full : Float) → Up length → Up (raised b length full)
unfolding raised
raised-up b length full h = chosen b (max_f length full) length (up-max length full h) h

pub widget-upright : (k : ℕ) (L : Layout) (f : Rect) (s : Vec2) → RectF32 f → T (at_least_zero s) → inside_out (justify_and_align k L f s) ≡ false
unfolding justify_and_align align_size_within_rect
widget-upright k L f s e h =
    let z : Vec2 = record { x = raised (horizontal_justify L) s.x (width f); y = raised (vertical_justify L) s.y (height f) } in
    let u = size-up s h in
    round-not-inside-out k (align_within (align2 L) z f)
    (within-upright (align2 L) z f e (raised-up (horizontal_justify L) s.x (width f) u.0) (raised-up (vertical_justify L) s.y (height f) u.1))
