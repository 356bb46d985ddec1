-- A placer whose edges are f32 keeps them so: every edge that a call sets is the result of an operation, or the lesser or greater of two
-- that were there. Only max_rect has to be f32 at the start. Assumes nothing.
use Prim.Native.Nat.{ℕ}
use mathlib.Core.Bool.{Bool, true, false, cond, ◌&&◌}
use lib.Dec.{eqb, ltb}
use lib.Ieee.{Float, binary32, le}
use lib.Ieee.Fits.{nan-fits}
use Rattle.emath.specs.Rectangles.{zero_f, union}
use Rattle.emath.specs.Binary32.{F32, RectF32}
use Rattle.emath.proofs.Binary32.{sum-f32, difference-f32, infinity-f32, neg-infinity-f32, zero-f32, min-f32, max-f32, union-f32, extend-x-f32, extend-y-f32, rounded-f32}
use Rattle.region.specs.Regions as regions
use Rattle.region.specs.Binary32.{RegionF32}
use Rattle.region.specs.Refusals.{zero_rect}
use Rattle.region.specs.Directions.{is_horizontal}
use Rattle.layout.specs.Rules as layout-rules
use Rattle.layout.specs.Rules.{stays_in_row, row_started, row_for, past_widget, next_row, initial_cursor}
use Rattle.grid.specs.Grids as grid-rules
use Rattle.placer.specs.Rules.{new_placer, set_grid, set_cursor, with_region, moved_past, advance_after_rects, advance_cursor, expand_to_include_rect, expand_to_include_x, expand_to_include_y, end_row, set_row_height, next_widget_space_ignore_wrap_justify, limited_across, limited_down, set_max_width, set_max_height, grown_across, grown_down, set_min_width, set_min_height}
use Rattle.placer.specs.Refusals.{zero_placer, placer_answer}
use Rattle.emath.specs.declared.Rect.{Rect}
use Rattle.emath.specs.declared.Vec2.{Vec2}
use Rattle.region.specs.declared.Direction.{Direction}
use Rattle.region.specs.declared.Direction.TheVariants.{LeftToRight, RightToLeft, TopDown, BottomUp}
use Rattle.region.specs.declared.Region.{Region}
use Rattle.layout.specs.declared.Layout.{Layout}
use Rattle.grid.specs.declared.GridLayout.{GridLayout}
use Rattle.placer.specs.declared.Placer.{Placer}

-- ---- a region
include-rect-f32 : {g : Region} {r : Rect} → RegionF32 g → RectF32 r → RegionF32 (regions.expand_to_include_rect g r)
unfolding regions.expand_to_include_rect
include-rect-f32 f e = record { inner = union-f32 f.inner e; outer = union-f32 f.outer e; cursor = f.cursor }

include-x-f32 : {g : Region} {x : Float} → RegionF32 g → F32 x → RegionF32 (regions.expand_to_include_x g x)
unfolding regions.expand_to_include_x
include-x-f32 f e = record { inner = extend-x-f32 f.inner e; outer = extend-x-f32 f.outer e; cursor = extend-x-f32 f.cursor e }

include-y-f32 : {g : Region} {y : Float} → RegionF32 g → F32 y → RegionF32 (regions.expand_to_include_y g y)
unfolding regions.expand_to_include_y
include-y-f32 f e = record { inner = extend-y-f32 f.inner e; outer = extend-y-f32 f.outer e; cursor = extend-y-f32 f.cursor e }

-- ---- a layout's calls
initial-f32 : (d : Direction) {m : Rect} → RectF32 m → RectF32 (initial_cursor d m)
unfolding initial_cursor
initial-f32 LeftToRight f = record { left = f.left; top = f.top; right = infinity-f32 false; bottom = f.bottom }
initial-f32 RightToLeft f = record { left = neg-infinity-f32; top = f.top; right = f.right; bottom = f.bottom }
initial-f32 TopDown f = record { left = f.left; top = f.top; right = f.right; bottom = infinity-f32 false }
initial-f32 BottomUp f = record { left = f.left; top = neg-infinity-f32; right = f.right; bottom = f.bottom }

from-max-rect-f32 : (k : ℕ) (l : Layout) (m : Rect) → RectF32 m → RegionF32 (layout-rules.region_from_max_rect k l m)
unfolding layout-rules.region_from_max_rect
from-max-rect-f32 k l m f = record {
  inner = record { left = difference-f32 _ _; top = difference-f32 _ _; right = sum-f32 _ _; bottom = sum-f32 _ _ };
  outer = f;
  cursor = initial-f32 l.main_dir f;
}

advance-f32 : (d : Direction) (g : Region) (a : Float) → RegionF32 g → RegionF32 (layout-rules.advance_cursor d g a)
unfolding layout-rules.advance_cursor
advance-f32 LeftToRight g a f = include-x-f32 (record { inner = f.inner; outer = f.outer; cursor = record { left = sum-f32 _ _; top = f.cursor.top; right = f.cursor.right; bottom = f.cursor.bottom } }) (sum-f32 _ _)
advance-f32 RightToLeft g a f = include-x-f32 (record { inner = f.inner; outer = f.outer; cursor = record { left = f.cursor.left; top = f.cursor.top; right = difference-f32 _ _; bottom = f.cursor.bottom } }) (difference-f32 _ _)
advance-f32 TopDown g a f = include-y-f32 (record { inner = f.inner; outer = f.outer; cursor = record { left = f.cursor.left; top = sum-f32 _ _; right = f.cursor.right; bottom = f.cursor.bottom } }) (sum-f32 _ _)
advance-f32 BottomUp g a f = include-y-f32 (record { inner = f.inner; outer = f.outer; cursor = record { left = f.cursor.left; top = f.cursor.top; right = f.cursor.right; bottom = difference-f32 _ _ } }) (difference-f32 _ _)

-- where a row is started the NaN is set anew before it is read; an f32 holds it too
started-f32 : (d : Direction) {f : Rect} → RectF32 f → RectF32 (row_started d f)
unfolding row_started
started-f32 LeftToRight f = record { left = record { holds = nan-fits binary32 }; top = f.top; right = infinity-f32 false; bottom = f.bottom }
started-f32 RightToLeft f = record { left = neg-infinity-f32; top = f.top; right = record { holds = nan-fits binary32 }; bottom = f.bottom }
started-f32 TopDown f = record { left = f.left; top = record { holds = nan-fits binary32 }; right = f.right; bottom = infinity-f32 false }
started-f32 BottomUp f = record { left = f.left; top = neg-infinity-f32; right = f.right; bottom = record { holds = nan-fits binary32 } }

across-f32 : (h : Bool) (c f : Rect) → RectF32 c → RectF32 f → RectF32 (layout-rules.grown_across h c f)
unfolding layout-rules.grown_across
across-f32 true c f d e = record { left = d.left; top = min-f32 d.top e.top; right = d.right; bottom = max-f32 d.bottom e.bottom }
across-f32 false c f d e = record { left = min-f32 d.left e.left; top = d.top; right = max-f32 d.right e.right; bottom = d.bottom }

row-f32 : (l : Layout) (c f : Rect) → RectF32 c → RectF32 f → RectF32 (row_for l c f)
unfolding row_for
row-f32 l c f d e = go l.main_wrap (stays_in_row c f)
  where
    go : (a b : Bool) → RectF32 (cond a (cond b (union c f) (row_started l.main_dir f)) (layout-rules.grown_across (is_horizontal l.main_dir) c f))
    go true true = union-f32 d e
    go true false = started-f32 l.main_dir e
    go false b = across-f32 (is_horizontal l.main_dir) c f d e

past-f32 : (d : Direction) (c w : Rect) (sp : Vec2) → RectF32 c → RectF32 (past_widget d c w sp)
unfolding past_widget
past-f32 LeftToRight c w sp f = record { left = sum-f32 _ _; top = f.top; right = f.right; bottom = f.bottom }
past-f32 RightToLeft c w sp f = record { left = f.left; top = f.top; right = difference-f32 _ _; bottom = f.bottom }
past-f32 TopDown c w sp f = record { left = f.left; top = sum-f32 _ _; right = f.right; bottom = f.bottom }
past-f32 BottomUp c w sp f = record { left = f.left; top = f.top; right = f.right; bottom = difference-f32 _ _ }

next-row-f32 : (d : Direction) (g : Region) (sp : Vec2) → RegionF32 g → RegionF32 (next_row d g sp)
unfolding next_row
next-row-f32 LeftToRight g sp f = record { inner = f.inner; outer = f.outer; cursor = record { left = f.outer.left; top = sum-f32 _ _; right = infinity-f32 false; bottom = sum-f32 _ _ } }
next-row-f32 RightToLeft g sp f = record { inner = f.inner; outer = f.outer; cursor = record { left = neg-infinity-f32; top = sum-f32 _ _; right = f.outer.right; bottom = sum-f32 _ _ } }
next-row-f32 TopDown g sp f = f
next-row-f32 BottomUp g sp f = f

pick-region : (b : Bool) {g h : Region} → RegionF32 g → RegionF32 h → RegionF32 (cond b g h)
pick-region true f e = f
pick-region false f e = e

-- ---- a placer: its region, and where its grid's rows start
pub record PlacerF32 (p : Placer) : Type 0 where
  pub region : RegionF32 p.region
  pub start : F32 p.grid.initial_available.left

pub new-f32 : (k : ℕ) (m : Rect) (l : Layout) → RectF32 m → PlacerF32 (new_placer k m l)
unfolding new_placer
new-f32 k m l f = record { region = from-max-rect-f32 k l m f; start = zero-f32 }

pub zero-placer-f32 : (l : Layout) → PlacerF32 (zero_placer l)
zero-placer-f32 l = let z : RectF32 zero_rect = record { left = zero-f32; top = zero-f32; right = zero-f32; bottom = zero-f32 } in record { region = record { inner = z; outer = z; cursor = z }; start = zero-f32 }

pub answered-f32 : (n : ℕ) (given new : Placer) → PlacerF32 given → PlacerF32 new → PlacerF32 (placer_answer n given new).placer
unfolding placer_answer
answered-f32 n given new f e = go (eqb n 0)
  where
    go : (b : Bool) → PlacerF32 (cond b new given)
    go true = e
    go false = f

module _ (p : Placer) (f : PlacerF32 p) where
  by-region : (g : Region) → RegionF32 g → PlacerF32 (with_region p g)
  by-region g e = record { region = e; start = f.start }

  pub advance-cursor-f32 : (a : Float) → PlacerF32 (advance_cursor p a)
  unfolding advance_cursor
  advance-cursor-f32 a = by-region _ (advance-f32 p.layout.main_dir p.region a f.region)

  pub set-row-height-f32 : (h : Float) → PlacerF32 (set_row_height p h)
  unfolding set_row_height layout-rules.set_row_height
  set-row-height-f32 h =
      let c = f.region.cursor in
      by-region _ (pick-region (p.layout.main_wrap && is_horizontal p.layout.main_dir) (record { inner = f.region.inner; outer = f.region.outer; cursor = record { left = c.left; top = c.top; right = c.right; bottom = sum-f32 _ _ } }) f.region)

  pub end-row-f32 : (sp : Vec2) → PlacerF32 (end_row p sp)
  unfolding end_row set_cursor grid-rules.end_row grid-rules.row_ended layout-rules.end_row
  end-row-f32 sp = go p.has_grid (ltb p.grid.row 128)
    where
      go : (b c : Bool) → PlacerF32 (cond b
          (set_grid (set_cursor p (cond c (grid-rules.row_ended p.grid p.region.cursor) (record { grid = p.grid; cursor = p.region.cursor })).cursor) (cond c (grid-rules.row_ended p.grid p.region.cursor) (record { grid = p.grid; cursor = p.region.cursor })).grid)
          (with_region p (layout-rules.end_row p.layout p.region sp)))
      go true true = record { region = record { inner = f.region.inner; outer = f.region.outer; cursor = record { left = f.start; top = sum-f32 _ _; right = f.region.cursor.right; bottom = f.region.cursor.bottom } }; start = f.start }
      go true false = record { region = f.region; start = f.start }
      go false c = by-region _ (pick-region p.layout.main_wrap (next-row-f32 p.layout.main_dir p.region sp f.region) f.region)

  -- the widget that a limit asks for is rounded
  space-f32 : (k : ℕ) (s : Vec2) → RectF32 (next_widget_space_ignore_wrap_justify k p s)
  unfolding next_widget_space_ignore_wrap_justify layout-rules.next_widget_space_ignore_wrap_justify layout-rules.align_size_within_rect
  space-f32 k s = rounded-f32 k _

  pub set-max-width-f32 : (k : ℕ) (w : Float) → PlacerF32 (set_max_width k p w)
  unfolding set_max_width limited_across
  set-max-width-f32 k w =
      let g = f.region in
      let e = space-f32 k (record { x = w; y = zero_f }) in
      let m = union-f32 (record { left = e.left; top = g.outer.top; right = e.right; bottom = g.outer.bottom }) g.inner in
      by-region _ (record { inner = g.inner; outer = m; cursor = record { left = m.left; top = g.cursor.top; right = m.right; bottom = g.cursor.bottom } })

  pub set-max-height-f32 : (k : ℕ) (h : Float) → PlacerF32 (set_max_height k p h)
  unfolding set_max_height limited_down
  set-max-height-f32 k h =
      let g = f.region in
      let e = space-f32 k (record { x = zero_f; y = h }) in
      let m = union-f32 (record { left = g.outer.left; top = e.top; right = g.outer.right; bottom = e.bottom }) g.inner in
      by-region _ (record { inner = g.inner; outer = m; cursor = record { left = g.cursor.left; top = m.top; right = g.cursor.right; bottom = m.bottom } })

  pub set-min-width-f32 : (k : ℕ) (w : Float) → PlacerF32 (set_min_width k p w)
  unfolding set_min_width grown_across expand_to_include_x
  set-min-width-f32 k w = go (le w zero_f)
    where
      e : RectF32 (next_widget_space_ignore_wrap_justify k p (record { x = w; y = zero_f }))
      e = space-f32 k (record { x = w; y = zero_f })

      go : (b : Bool) → PlacerF32 (cond b p (grown_across p (next_widget_space_ignore_wrap_justify k p (record { x = w; y = zero_f }))))
      go true = f
      go false = by-region _ (include-x-f32 (include-x-f32 f.region e.left) e.right)

  pub set-min-height-f32 : (k : ℕ) (h : Float) → PlacerF32 (set_min_height k p h)
  unfolding set_min_height grown_down expand_to_include_y
  set-min-height-f32 k h = go (le h zero_f)
    where
      e : RectF32 (next_widget_space_ignore_wrap_justify k p (record { x = zero_f; y = h }))
      e = space-f32 k (record { x = zero_f; y = h })

      go : (b : Bool) → PlacerF32 (cond b p (grown_down p (next_widget_space_ignore_wrap_justify k p (record { x = zero_f; y = h }))))
      go true = f
      go false = by-region _ (include-y-f32 (include-y-f32 f.region e.top) e.bottom)

  pub advance-after-rects-f32 : (r w : Rect) (sp : Vec2) → RectF32 r → PlacerF32 (advance_after_rects p r w sp)
  unfolding advance_after_rects expand_to_include_rect moved_past set_cursor grid-rules.advance grid-rules.advanced layout-rules.advance_after_rects
  advance-after-rects-f32 r w sp e = go p.has_grid (ltb p.grid.col 32 && ltb p.grid.row 128)
    where
      past : Bool → Placer
      past c = set_grid (set_cursor p (cond c (grid-rules.advanced p.grid p.region.cursor w) (record { grid = p.grid; cursor = p.region.cursor })).cursor) (cond c (grid-rules.advanced p.grid p.region.cursor w) (record { grid = p.grid; cursor = p.region.cursor })).grid

      go : (b c : Bool) → PlacerF32 (expand_to_include_rect (cond b (past c) (set_cursor p (layout-rules.advance_after_rects p.layout p.region.cursor r w sp))) r)
      go true true =
          let c = f.region.cursor in
          record { region = include-rect-f32 (record { inner = f.region.inner; outer = f.region.outer; cursor = record { left = sum-f32 _ _; top = c.top; right = c.right; bottom = c.bottom } }) e; start = f.start }
      go true false = record { region = include-rect-f32 (record { inner = f.region.inner; outer = f.region.outer; cursor = f.region.cursor }) e; start = f.start }
      go false c = record { region = include-rect-f32 (record { inner = f.region.inner; outer = f.region.outer; cursor = past-f32 p.layout.main_dir _ w sp (row-f32 p.layout p.region.cursor r f.region.cursor e) }) e; start = f.start }

  pub set-grid-f32 : (g : GridLayout) → F32 g.initial_available.left → PlacerF32 (set_grid p g)
  set-grid-f32 g e = record { region = f.region; start = e }
