-- Whole steps in, whole steps out, for the calls that a layout or a grid answers: new, the cursor's moves and the expansions. For steps of
-- 1 to 1/64 point. Assumes nothing.
use mathlib.Core.Path.{◌≡◌}
use mathlib.Core.Bool.{Bool, false}
use Prim.Native.Nat.{ℕ, ◌≤◌}
use native.Mathlib.Omega.{arith}
use lib.Ieee.{Float}
use Rattle.emath.specs.Steps.{Edge}
use Rattle.region.specs.Regions as regions
use Rattle.layout.specs.Rules as layout-rules
use Rattle.region.specs.Regions.{with_cursor}
use Rattle.region.specs.Refusals.{cursor_fault, region_fault}
use Rattle.region.specs.Steps.{WholeRect, WholeSize, WholeCursor, WholeRegion}
use Rattle.region.proofs.Answers.{region-none}
use Rattle.region.proofs.WholeRegions.{expand-to-include-rect-whole, expand-to-include-x-whole, expand-to-include-y-whole}
use Rattle.layout.proofs.WholeCursors.{advance-cursor-whole, end-row-whole, set-row-height-whole}
use Rattle.layout.proofs.WholeCursors.{advance-after-rects-whole}
use Rattle.layout.proofs.Seeds.{region-from-max-rect-whole}
use Rattle.placer.specs.Refusals.{placer_fault}
use Rattle.placer.specs.Rules.{new_placer, with_region, set_cursor, force_set_min_rect, advance_cursor, moved_past, advance_after_rects, end_row, set_row_height, expand_to_include_rect, expand_to_include_x, expand_to_include_y}
use Rattle.placer.specs.Steps.{WholePlacer}
use Rattle.placer.proofs.Answers.{placer-region}
use Rattle.emath.specs.declared.Rect.{Rect}
use Rattle.emath.specs.declared.Vec2.{Vec2}
use Rattle.region.specs.declared.Direction.{Direction}
use Rattle.layout.specs.declared.Layout.{Layout}
use Rattle.region.specs.declared.Region.{Region}
use Rattle.grid.specs.declared.GridLayout.{GridLayout}
use Rattle.placer.specs.declared.Placer.{Placer}

-- a placer with the region r, and with a grid or without
abbrev placer_of : Bool → GridLayout → Layout → Region → Placer
placer_of b g L r = record { has_grid = b; grid = g; layout = L; region = r }

module _ (k : ℕ) (l : k ≤ 6) where
  -- ---- new, and what is set as it is given
  pub new-whole : (m : Rect) (L : Layout) → WholeRect k m → placer_fault (new_placer k m L) ≡ 0 → WholePlacer k (new_placer k m L)
  unfolding new_placer
  new-whole m L w h = region-from-max-rect-whole k l L m w (placer-region (new_placer k m L) h)

  pub force-set-min-rect-whole : (p : Placer) (m : Rect) → WholePlacer k p → WholeRect k m → WholePlacer k (force_set_min_rect p m)
  unfolding force_set_min_rect
  force-set-min-rect-whole p m w e = record { inner = e; outer = w.outer; cursor = w.cursor }

  pub set-cursor-whole : (p : Placer) (c : Rect) → WholePlacer k p → WholeCursor k p.layout.main_dir c → WholePlacer k (set_cursor p c)
  unfolding set_cursor
  set-cursor-whole p c w e = record { inner = w.inner; outer = w.outer; cursor = e }

  -- ---- the layout's moves
  pub advance-cursor-whole-steps : (p : Placer) (a : Float) → WholePlacer k p → Edge k a → placer_fault (advance_cursor p a) ≡ 0 → WholePlacer k (advance_cursor p a)
  unfolding advance_cursor
  advance-cursor-whole-steps p a w e h = advance-cursor-whole k (omega arith) p.layout.main_dir p.region a w e (placer-region (with_region p (layout-rules.advance_cursor p.layout.main_dir p.region a)) h)

  pub set-row-height-whole-steps : (p : Placer) (a : Float) → WholePlacer k p → Edge k a → placer_fault (set_row_height p a) ≡ 0 → WholePlacer k (set_row_height p a)
  unfolding set_row_height
  set-row-height-whole-steps p a w e h = set-row-height-whole k (omega arith) p.layout p.region a w e (placer-region (with_region p (layout-rules.set_row_height p.layout p.region a)) h)

  pub expand-rect-whole-steps : (p : Placer) (r : Rect) → WholePlacer k p → WholeRect k r → placer_fault (expand_to_include_rect p r) ≡ 0 → WholePlacer k (expand_to_include_rect p r)
  unfolding expand_to_include_rect
  expand-rect-whole-steps p r w e h = expand-to-include-rect-whole k (omega arith) p.layout.main_dir p.region r w e (placer-region (with_region p (regions.expand_to_include_rect p.region r)) h)

  pub expand-x-whole-steps : (p : Placer) (x : Float) → WholePlacer k p → Edge k x → placer_fault (expand_to_include_x p x) ≡ 0 → WholePlacer k (expand_to_include_x p x)
  unfolding expand_to_include_x
  expand-x-whole-steps p x w e h = expand-to-include-x-whole k (omega arith) p.layout.main_dir p.region x w e (placer-region (with_region p (regions.expand_to_include_x p.region x)) h)

  pub expand-y-whole-steps : (p : Placer) (y : Float) → WholePlacer k p → Edge k y → placer_fault (expand_to_include_y p y) ≡ 0 → WholePlacer k (expand_to_include_y p y)
  unfolding expand_to_include_y
  expand-y-whole-steps p y w e h = expand-to-include-y-whole k (omega arith) p.layout.main_dir p.region y w e (placer-region (with_region p (regions.expand_to_include_y p.region y)) h)

  -- ---- advance_after_rects: a frame included after the cursor was moved to c
  included : (p : Placer) (c f : Rect) → WholePlacer k p → WholeRect k f → (cursor_fault p.layout.main_dir c ≡ 0 → WholeCursor k p.layout.main_dir c)
      → region_fault p.layout.main_dir (regions.expand_to_include_rect (with_cursor p.region c) f) ≡ 0 → WholeRegion k p.layout.main_dir (regions.expand_to_include_rect (with_cursor p.region c) f)
  included p c f w e m h =
      let d = p.layout.main_dir in
      let n : cursor_fault d c ≡ 0 = cursor-of d (with_cursor p.region c) h in
      expand-to-include-rect-whole k (omega arith) d (with_cursor p.region c) f (record { inner = w.inner; outer = w.outer; cursor = m n }) e h
    where
      cursor-of : (d : Direction) (g : Region) → region_fault d (regions.expand_to_include_rect g f) ≡ 0 → cursor_fault d g.cursor ≡ 0
      cursor-of d g h = unfold regions.expand_to_include_rect in (region-none d (regions.expand_to_include_rect g f) h).2

  pub advance-after-rects-layout : (p : Placer) (f v : Rect) (sp : Vec2) → p.has_grid ≡ false → WholePlacer k p → WholeRect k f → WholeRect k v → WholeSize k sp
      → placer_fault (advance_after_rects p f v sp) ≡ 0 → WholePlacer k (advance_after_rects p f v sp)
  unfolding advance_after_rects moved_past set_cursor expand_to_include_rect
  advance-after-rects-layout p f v sp g w F W S h = rw g (go (rw g at h))
    where
      c : Rect
      c = layout-rules.advance_after_rects p.layout p.region.cursor f v sp

      go : placer_fault (placer_of false p.grid p.layout (regions.expand_to_include_rect (with_cursor p.region c) f)) ≡ 0
          → WholeRegion k p.layout.main_dir (regions.expand_to_include_rect (with_cursor p.region c) f)
      go h = included p c f w F (λ (n : cursor_fault p.layout.main_dir c ≡ 0). advance-after-rects-whole k (omega arith) p.layout p.region.cursor f v sp w.cursor F W S n)
          (placer-region (placer_of false p.grid p.layout (regions.expand_to_include_rect (with_cursor p.region c) f)) h)

  pub end-row-layout : (p : Placer) (sp : Vec2) → p.has_grid ≡ false → WholePlacer k p → WholeSize k sp → placer_fault (end_row p sp) ≡ 0 → WholePlacer k (end_row p sp)
  unfolding end_row
  end-row-layout p sp g w S h = rw g (go (rw g at h))
    where
      go : placer_fault (placer_of false p.grid p.layout (layout-rules.end_row p.layout p.region sp)) ≡ 0 → WholeRegion k p.layout.main_dir (layout-rules.end_row p.layout p.region sp)
      go h = end-row-whole k (omega arith) p.layout p.region sp w S (placer-region (placer_of false p.grid p.layout (layout-rules.end_row p.layout p.region sp)) h)
