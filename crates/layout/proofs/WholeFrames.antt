-- Frames and widgets are in whole steps: whatever the region, size and spacing, an accepted frame or widget rectangle has whole-step
-- edges, since it was rounded and is within the limit. For steps of 1 to 1/128 point. Assumes nothing.
use mathlib.Core.Path.{◌≡◌}
use mathlib.Core.Bool.{cond}
use Prim.Native.Nat.{ℕ, ◌≤◌}
use Rattle.emath.specs.Rectangles.{align_within, width, height}
use Rattle.emath.specs.Refusals.{edges_fault}
use Rattle.layout.specs.Layouts.{align2, horizontal_justify, vertical_justify}
use Rattle.layout.specs.Rules.{align_size_within_rect, available_rect_before_wrap, new_region, frame_rect, next_frame_ignore_wrap, wraps, next_frame, raised, justify_and_align, next_widget_space_ignore_wrap_justify}
use Rattle.region.specs.Steps.{WholeRect}
use Rattle.region.proofs.WholeRegions.{rounded-whole}
use Rattle.emath.specs.declared.Rect.{Rect}
use Rattle.emath.specs.declared.Vec2.{Vec2}
use Rattle.layout.specs.declared.Layout.{Layout}
use Rattle.region.specs.declared.Region.{Region}

module _ (k : ℕ) (l : k ≤ 7) where
  pub next-frame-ignore-wrap-whole : (L : Layout) (g : Region) (s : Vec2) → edges_fault (next_frame_ignore_wrap k L g s) ≡ 0 → WholeRect k (next_frame_ignore_wrap k L g s)
  unfolding next_frame_ignore_wrap
  next-frame-ignore-wrap-whole L g s h =
      rounded-whole k l (frame_rect L g.cursor (available_rect_before_wrap L.main_dir g) s) h

  pub next-frame-whole : (L : Layout) (g : Region) (s sp : Vec2) → edges_fault (next_frame k L g s sp) ≡ 0 → WholeRect k (next_frame k L g s sp)
  unfolding next_frame
  next-frame-whole L g s sp h = next-frame-ignore-wrap-whole L (cond (wraps L g s) (new_region L.main_dir g s sp) g) s h

  pub align-size-within-rect-whole : (L : Layout) (s : Vec2) (o : Rect) → edges_fault (align_size_within_rect k L s o) ≡ 0 → WholeRect k (align_size_within_rect k L s o)
  unfolding align_size_within_rect
  align-size-within-rect-whole L s o h = rounded-whole k l (align_within (align2 L) s o) h

  pub justify-and-align-whole : (L : Layout) (f : Rect) (s : Vec2) → edges_fault (justify_and_align k L f s) ≡ 0 → WholeRect k (justify_and_align k L f s)
  unfolding justify_and_align
  justify-and-align-whole L f s h =
      align-size-within-rect-whole L (record { x = raised (horizontal_justify L) s.x (width f); y = raised (vertical_justify L) s.y (height f) }) f h

  pub next-widget-space-whole : (L : Layout) (g : Region) (s : Vec2) → edges_fault (next_widget_space_ignore_wrap_justify k L g s) ≡ 0 → WholeRect k (next_widget_space_ignore_wrap_justify k L g s)
  unfolding next_widget_space_ignore_wrap_justify
  next-widget-space-whole L g s h = align-size-within-rect-whole L s (next_frame_ignore_wrap k L g s) h
