-- A cell's frame is in whole steps, and its widget is exactly as wide as the control, whatever the memory, sizing and cursor.
-- For steps of 1 to 1/128 point. Assumes nothing.
use Rattle.std.proofs.Common.{◌≡◌, sym, ap, ◌∙◌, false, ℕ, ◌≤◌, arith, ◌+ℤ◌, ◌-ℤ◌}
use Rattle.std.specs.Prelude.{Float}
use Rattle.std.specs.Float.{binary32}
use Rattle.std.specs.Float.Ieee.{add, sub}
use Rattle.emath.proofs.Whole.{Within, sum, diff, whole}
use Rattle.region.specs.Steps.{WholeRect}
use Rattle.region.proofs.WholeRegions.{rounded-whole}
use Rattle.emath.specs.Rectangles.{max_f, width, from_min_size, left_center, aligned_to, align_on, align_within, round_rect}
use Rattle.emath.specs.Refusals.{edges_fault}
use Rattle.emath.specs.Steps.{val, Edge}
use Rattle.emath.proofs.Values.{val-add, val-sub, eq-inf}
use Rattle.emath.proofs.Rounding.{val-whole}
use Rattle.emath.proofs.Sums.{edge-small}
use Rattle.grid.specs.Grids.{prev_row_height, next_width, next_cell, align_size_within_rect}
use Rattle.emath.specs.declared.Rect.{Rect}
use Rattle.emath.specs.declared.Vec2.{Vec2}
use Rattle.emath.specs.declared.Align.TheVariants.{Min}
use Rattle.grid.specs.declared.GridLayout.{GridLayout}

module _ (k : ℕ) (l : k ≤ 7) where
  pub next-cell-whole : (g : GridLayout) (c : Rect) (s : Vec2) → edges_fault (next_cell k g c s) ≡ 0 → WholeRect k (next_cell k g c s)
  unfolding next_cell
  next-cell-whole g c s h =
      let r = from_min_size (record { x = c.left; y = c.top }) (record { x = max_f s.x (next_width g); y = max_f s.y (prev_row_height g g.row) }) in
      rounded-whole k l r h

  pub align-size-within-rect-whole : (s : Vec2) (f : Rect) → edges_fault (align_size_within_rect k s f) ≡ 0 → WholeRect k (align_size_within_rect k s f)
  unfolding align_size_within_rect
  align-size-within-rect-whole s f h = rounded-whole k l (align_within left_center s f) h

  -- ---- the widget starts at the frame's left and is as wide as the control
  module _ (s : Vec2) (f : Rect) (x : Edge k f.left) (w : Edge k s.x) where
    X : Within 8388608 x.steps
    X = edge-small k l x

    W : Within 8388608 w.steps
    W = edge-small k l w

    across : align_on Min f.left f.right s.x ≡ record { min = f.left; max = add binary32 f.left s.x }
    unfolding align_on aligned_to
    across = rw (w.is, eq-inf k (omega arith) w.steps (omega (arith, W)) false)

    sum_is : add binary32 f.left s.x ≡ val k (x.steps +ℤ w.steps)
    sum_is = rw (x.is, w.is) (val-add k (omega arith) x.steps w.steps (omega (arith, X)) (omega (arith, W)))

    pub widget-left : (align_size_within_rect k s f).left ≡ f.left
    unfolding align_size_within_rect align_within round_rect
    widget-left = rw (across, x.is) (val-whole k x.steps (omega arith) (omega (arith, X)))

    pub widget-right : (align_size_within_rect k s f).right ≡ add binary32 f.left s.x
    unfolding align_size_within_rect align_within round_rect
    widget-right = rw (across, sum_is) (val-whole k (x.steps +ℤ w.steps) (omega arith) (omega (arith, X, W, sum x.steps w.steps)))

    pub widget-width : width (align_size_within_rect k s f) ≡ s.x
    widget-width =
        let e : x.steps +ℤ w.steps -ℤ x.steps ≡ w.steps = omega (arith, whole, sum x.steps w.steps, diff (x.steps +ℤ w.steps) x.steps) in
        let p : sub binary32 (val k (x.steps +ℤ w.steps)) (val k x.steps) ≡ val k w.steps
        = val-sub k (omega arith) (x.steps +ℤ w.steps) x.steps (omega (arith, X, W, sum x.steps w.steps)) (omega (arith, X)) ∙ ap (val k) e in
        ap (λ (v : Float). sub binary32 v (align_size_within_rect k s f).left) (widget-right ∙ sum_is)
        ∙ ap (λ (v : Float). sub binary32 (val k (x.steps +ℤ w.steps)) v) (widget-left ∙ x.is)
        ∙ p ∙ sym w.is

  -- ---- so for every accepted cell
  pub cell-width : (g : GridLayout) (c : Rect) (s : Vec2) → edges_fault (next_cell k g c s) ≡ 0 → Edge k s.x → width (align_size_within_rect k s (next_cell k g c s)) ≡ s.x
  cell-width g c s h w = widget-width s (next_cell k g c s) (next-cell-whole g c s h).left w
