-- Whatever memory a grid was given, min_rect, max_rect and the cursor's top stay whole under the calls that set, expand and grow the
-- region, too. For steps of 1 to 1/64 point. Assumes nothing.
use mathlib.Core.Path.{◌≡◌}
use mathlib.Core.Bool.{Bool, true, false, cond, ◌&&◌}
use Prim.Native.Nat.{ℕ, ◌≤◌}
use lib.Ieee.{Float, binary32, add, le}
use Rattle.emath.specs.Rectangles.{zero_f, extend_with_x, extend_with_y}
use Rattle.emath.specs.Steps.{Edge}
use Rattle.region.specs.Regions as regions
use Rattle.layout.specs.Rules as layout-rules
use Rattle.region.specs.Regions.{with_cursor, set_bottom}
use Rattle.region.specs.Directions.{is_horizontal}
use Rattle.region.specs.Steps.{WholeRect}
use Rattle.grid.specs.Refusals.{fits_grid}
use Rattle.placer.specs.Refusals.{placer_fault}
use Rattle.placer.specs.Rules.{force_set_min_rect, with_region, set_cursor, set_row_height, expand_to_include_rect, expand_to_include_x, expand_to_include_y, next_widget_space_ignore_wrap_justify, grown_across, grown_down, set_min_width, set_min_height}
use Rattle.placer.specs.Steps.{WholeTops}
use Rattle.placer.proofs.WholePlacers.{WholeIf, edge-whole-if, min-whole-if, rect-if, space-if, union-if, x-if, y-if}
use Rattle.emath.specs.declared.Rect.{Rect}
use Rattle.region.specs.declared.Region.{Region}
use Rattle.placer.proofs.WholeGrids.{TopsIf, tops-if, tops-whole}
use Rattle.placer.specs.declared.Placer.{Placer}

module _ (k : ℕ) (l : k ≤ 6) (p : Placer) (d : fits_grid p.layout.main_dir ≡ true) (w : WholeTops k p) where
  pub force-set-min-rect-tops : (m : Rect) → WholeRect k m → WholeTops k (force_set_min_rect p m)
  unfolding force_set_min_rect
  force-set-min-rect-tops m e = record { inner = e; outer = w.outer; top = w.top }

  pub set-cursor-tops : (c : Rect) → Edge k c.top → WholeTops k (set_cursor p c)
  unfolding set_cursor
  set-cursor-tops c e = record { inner = w.inner; outer = w.outer; top = e }

  pub expand-rect-tops : (r : Rect) → WholeRect k r → placer_fault (expand_to_include_rect p r) ≡ 0 → WholeTops k (expand_to_include_rect p r)
  unfolding expand_to_include_rect regions.expand_to_include_rect
  expand-rect-tops r e h =
      let i = tops-if k l p w in
      let f = rect-if k l r e in
      tops-whole k l (expand_to_include_rect p r) d (record { inner = union-if k l p.region.min_rect r i.inner f; outer = union-if k l p.region.max_rect r i.outer f; top = i.top }) h

  -- by one value, across or down
  x-tops : (g : Region) (x : Float) → TopsIf k l g → WholeIf k x → TopsIf k l (regions.expand_to_include_x g x)
  unfolding regions.expand_to_include_x extend_with_x
  x-tops g x i e = record { inner = x-if k l g.min_rect x i.inner e; outer = x-if k l g.max_rect x i.outer e; top = i.top }

  y-tops : (g : Region) (y : Float) → TopsIf k l g → WholeIf k y → TopsIf k l (regions.expand_to_include_y g y)
  unfolding regions.expand_to_include_y extend_with_y
  y-tops g y i e = record { inner = y-if k l g.min_rect y i.inner e; outer = y-if k l g.max_rect y i.outer e; top = min-whole-if k l i.top e }

  pub expand-x-tops : (x : Float) → Edge k x → placer_fault (expand_to_include_x p x) ≡ 0 → WholeTops k (expand_to_include_x p x)
  unfolding expand_to_include_x
  expand-x-tops x e h = tops-whole k l (expand_to_include_x p x) d (x-tops p.region x (tops-if k l p w) (edge-whole-if k l e)) h

  pub expand-y-tops : (y : Float) → Edge k y → placer_fault (expand_to_include_y p y) ≡ 0 → WholeTops k (expand_to_include_y p y)
  unfolding expand_to_include_y
  expand-y-tops y e h = tops-whole k l (expand_to_include_y p y) d (y-tops p.region y (tops-if k l p w) (edge-whole-if k l e)) h

  pub set-min-width-tops : (v : Float) → placer_fault (set_min_width k p v) ≡ 0 → WholeTops k (set_min_width k p v)
  unfolding set_min_width grown_across expand_to_include_x
  set-min-width-tops v h = go (le v zero_f) h
    where
      r : Rect
      r = next_widget_space_ignore_wrap_justify k p (record { x = v; y = zero_f })

      grown : Region
      grown = regions.expand_to_include_x (regions.expand_to_include_x p.region r.left) r.right

      go : (b : Bool) → placer_fault (cond b p (with_region p grown)) ≡ 0 → WholeTops k (cond b p (with_region p grown))
      go true h = w
      go false h =
          let s = space-if k l p (record { x = v; y = zero_f }) in
          tops-whole k l (with_region p grown) d (x-tops (regions.expand_to_include_x p.region r.left) r.right (x-tops p.region r.left (tops-if k l p w) s.left) s.right) h

  pub set-min-height-tops : (v : Float) → placer_fault (set_min_height k p v) ≡ 0 → WholeTops k (set_min_height k p v)
  unfolding set_min_height grown_down expand_to_include_y
  set-min-height-tops v h = go (le v zero_f) h
    where
      r : Rect
      r = next_widget_space_ignore_wrap_justify k p (record { x = zero_f; y = v })

      grown : Region
      grown = regions.expand_to_include_y (regions.expand_to_include_y p.region r.top) r.bottom

      go : (b : Bool) → placer_fault (cond b p (with_region p grown)) ≡ 0 → WholeTops k (cond b p (with_region p grown))
      go true h = w
      go false h =
          let s = space-if k l p (record { x = zero_f; y = v }) in
          tops-whole k l (with_region p grown) d (y-tops (regions.expand_to_include_y p.region r.top) r.bottom (y-tops p.region r.top (tops-if k l p w) s.top) s.bottom) h

  pub set-row-height-tops : (v : Float) → WholeTops k (set_row_height p v)
  unfolding set_row_height layout-rules.set_row_height
  set-row-height-tops v = go (p.layout.main_wrap && is_horizontal p.layout.main_dir)
    where
      go : (b : Bool) → WholeTops k (with_region p (cond b (with_cursor p.region (set_bottom p.region.cursor (add binary32 p.region.cursor.top v))) p.region))
      go true = record { inner = w.inner; outer = w.outer; top = w.top }
      go false = record { inner = w.inner; outer = w.outer; top = w.top }
