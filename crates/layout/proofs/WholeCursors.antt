-- Whole steps in, whole steps out: a cursor and a region in whole steps stay so under every accepted call of Layout that moves the cursor,
-- its arguments being whole steps. For steps of 1 to 1/128 point. Assumes nothing.
use mathlib.Core.Path.{◌≡◌, refl, sym}
use mathlib.Core.Bool.{Bool, true, false, cond, true≢false, ◌&&◌}
use Prim.Native.Nat.{ℕ, ◌≤◌}
use lib.Ieee.{Float, binary32, add, sub}
use Rattle.emath.specs.Rectangles.{union}
use Rattle.emath.specs.Steps.{Edge}
use Rattle.emath.proofs.Sums.{OnGrid, grid-add, grid-sub, grid-min, grid-max}
use Rattle.region.specs.Directions.{is_horizontal}
use Rattle.region.specs.Regions.{set_left, set_top, set_right, set_bottom, with_cursor}
use Rattle.region.specs.Refusals.{closed, cursor_fault, region_fault}
use Rattle.region.specs.Steps.{WholeRect, WholeSize, WholeCursor, WholeRegion}
use Rattle.region.proofs.WholeRegions.{GridRect, GridCursor, GridRegion, open-max, open-min, far-right, far-left, rect-grid, region-grid, cursor-whole, region-whole, region-x, region-y}
use Rattle.layout.specs.Rules.{stays_in_row, row_started, grown_across, row_for, past_widget, advance_after_rects, advance_cursor, next_row, end_row, set_row_height}
use Rattle.emath.specs.declared.Rect.{Rect}
use Rattle.emath.specs.declared.Vec2.{Vec2}
use Rattle.region.specs.declared.Direction.{Direction}
use Rattle.region.specs.declared.Direction.TheVariants.{LeftToRight, RightToLeft, TopDown, BottomUp}
use Rattle.region.specs.declared.Region.{Region}
use Rattle.layout.specs.declared.Layout.{Layout}

module _ (k : ℕ) (l : k ≤ 7) where
  -- ---- advance_after_rects: the row is on the grid but for its starting edge, a placeholder at a new row, which is then set past the widget
  past-grid : (d : Direction) (wrap stays : Bool) (c f w : Rect) (sp : Vec2) → GridCursor k d c → GridRect k f → WholeRect k w → WholeSize k sp
      → GridCursor k d (past_widget d (cond wrap (cond stays (union c f) (row_started d f)) (grown_across (is_horizontal d) c f)) w sp)
  unfolding closed past_widget union row_started grown_across is_horizontal
  past-grid LeftToRight true true c f w sp g h W S = record { left = grid-add k l W.right S.x; top = grid-min k l g.top h.top; right = open-max k l c.right f.right g.right h.right; bottom = grid-max k l g.bottom h.bottom }
  past-grid LeftToRight true false c f w sp g h W S = record { left = grid-add k l W.right S.x; top = h.top; right = far-right k l; bottom = h.bottom }
  past-grid LeftToRight false stays c f w sp g h W S = record { left = grid-add k l W.right S.x; top = grid-min k l g.top h.top; right = g.right; bottom = grid-max k l g.bottom h.bottom }
  past-grid RightToLeft true true c f w sp g h W S = record { left = open-min k l c.left f.left g.left h.left; top = grid-min k l g.top h.top; right = grid-sub k l W.left S.x; bottom = grid-max k l g.bottom h.bottom }
  past-grid RightToLeft true false c f w sp g h W S = record { left = far-left k l; top = h.top; right = grid-sub k l W.left S.x; bottom = h.bottom }
  past-grid RightToLeft false stays c f w sp g h W S = record { left = g.left; top = grid-min k l g.top h.top; right = grid-sub k l W.left S.x; bottom = grid-max k l g.bottom h.bottom }
  past-grid TopDown true true c f w sp g h W S = record { left = grid-min k l g.left h.left; top = grid-add k l W.bottom S.y; right = grid-max k l g.right h.right; bottom = open-max k l c.bottom f.bottom g.bottom h.bottom }
  past-grid TopDown true false c f w sp g h W S = record { left = h.left; top = grid-add k l W.bottom S.y; right = h.right; bottom = far-right k l }
  past-grid TopDown false stays c f w sp g h W S = record { left = grid-min k l g.left h.left; top = grid-add k l W.bottom S.y; right = grid-max k l g.right h.right; bottom = g.bottom }
  past-grid BottomUp true true c f w sp g h W S = record { left = grid-min k l g.left h.left; top = open-min k l c.top f.top g.top h.top; right = grid-max k l g.right h.right; bottom = grid-sub k l W.top S.y }
  past-grid BottomUp true false c f w sp g h W S = record { left = h.left; top = far-left k l; right = h.right; bottom = grid-sub k l W.top S.y }
  past-grid BottomUp false stays c f w sp g h W S = record { left = grid-min k l g.left h.left; top = g.top; right = grid-max k l g.right h.right; bottom = grid-sub k l W.top S.y }

  pub advance-after-rects-whole : (L : Layout) (c f w : Rect) (sp : Vec2) → WholeCursor k L.main_dir c → WholeRect k f → WholeRect k w → WholeSize k sp
      → cursor_fault L.main_dir (advance_after_rects L c f w sp) ≡ 0 → WholeCursor k L.main_dir (advance_after_rects L c f w sp)
  unfolding advance_after_rects row_for
  advance-after-rects-whole L c f w sp C F W S h =
      cursor-whole k l L.main_dir (past_widget L.main_dir (cond L.main_wrap (cond (stays_in_row c f) (union c f) (row_started L.main_dir f)) (grown_across (is_horizontal L.main_dir) c f)) w sp)
      (past-grid L.main_dir L.main_wrap (stays_in_row c f) c f w sp (rect-grid k l (closed L.main_dir c) C) (rect-grid k l f F) W S) h

  -- ---- advance_cursor
  advance-grid : (d : Direction) (g : Region) (a : Float) → WholeRegion k d g → Edge k a → GridRegion k d (advance_cursor d g a)
  unfolding advance_cursor closed
  advance-grid LeftToRight g a w e =
      let G = region-grid k l LeftToRight g w in
      let x : OnGrid k (add binary32 g.cursor.left a) = grid-add k l w.cursor.left e in
      region-x k l LeftToRight (with_cursor g (set_left g.cursor (add binary32 g.cursor.left a))) (add binary32 g.cursor.left a)
      (record { inner = G.inner; outer = G.outer; cursor = record { left = x; top = G.cursor.top; right = G.cursor.right; bottom = G.cursor.bottom } }) x
  advance-grid RightToLeft g a w e =
      let G = region-grid k l RightToLeft g w in
      let x : OnGrid k (sub binary32 g.cursor.right a) = grid-sub k l w.cursor.right e in
      region-x k l RightToLeft (with_cursor g (set_right g.cursor (sub binary32 g.cursor.right a))) (sub binary32 g.cursor.right a)
      (record { inner = G.inner; outer = G.outer; cursor = record { left = G.cursor.left; top = G.cursor.top; right = x; bottom = G.cursor.bottom } }) x
  advance-grid TopDown g a w e =
      let G = region-grid k l TopDown g w in
      let y : OnGrid k (add binary32 g.cursor.top a) = grid-add k l w.cursor.top e in
      region-y k l TopDown (with_cursor g (set_top g.cursor (add binary32 g.cursor.top a))) (add binary32 g.cursor.top a)
      (record { inner = G.inner; outer = G.outer; cursor = record { left = G.cursor.left; top = y; right = G.cursor.right; bottom = G.cursor.bottom } }) y
  advance-grid BottomUp g a w e =
      let G = region-grid k l BottomUp g w in
      let y : OnGrid k (sub binary32 g.cursor.bottom a) = grid-sub k l w.cursor.bottom e in
      region-y k l BottomUp (with_cursor g (set_bottom g.cursor (sub binary32 g.cursor.bottom a))) (sub binary32 g.cursor.bottom a)
      (record { inner = G.inner; outer = G.outer; cursor = record { left = G.cursor.left; top = G.cursor.top; right = G.cursor.right; bottom = y } }) y

  pub advance-cursor-whole : (d : Direction) (g : Region) (a : Float) → WholeRegion k d g → Edge k a → region_fault d (advance_cursor d g a) ≡ 0 → WholeRegion k d (advance_cursor d g a)
  advance-cursor-whole d g a w e h = region-whole k l d (advance_cursor d g a) (advance-grid d g a w e) h

  -- ---- end_row
  next-row-grid : (d : Direction) (g : Region) (sp : Vec2) → WholeRegion k d g → WholeSize k sp → GridRegion k d (next_row d g sp)
  unfolding next_row closed
  next-row-grid LeftToRight g sp w e =
      let G = region-grid k l LeftToRight g w in
      let y : OnGrid k (add binary32 g.cursor.bottom sp.y) = grid-add k l w.cursor.bottom e.y in
      record { inner = G.inner; outer = G.outer; cursor = record { left = G.outer.left; top = y; right = far-right k l; bottom = y } }
  next-row-grid RightToLeft g sp w e =
      let G = region-grid k l RightToLeft g w in
      let y : OnGrid k (add binary32 g.cursor.bottom sp.y) = grid-add k l w.cursor.bottom e.y in
      record { inner = G.inner; outer = G.outer; cursor = record { left = far-left k l; top = y; right = G.outer.right; bottom = y } }
  next-row-grid TopDown g sp w e = region-grid k l TopDown g w
  next-row-grid BottomUp g sp w e = region-grid k l BottomUp g w

  pub end-row-whole : (L : Layout) (g : Region) (sp : Vec2) → WholeRegion k L.main_dir g → WholeSize k sp → region_fault L.main_dir (end_row L g sp) ≡ 0 → WholeRegion k L.main_dir (end_row L g sp)
  unfolding end_row
  end-row-whole L g sp w e h = go L.main_wrap h
    where
      go : (b : Bool) → region_fault L.main_dir (cond b (next_row L.main_dir g sp) g) ≡ 0 → WholeRegion k L.main_dir (cond b (next_row L.main_dir g sp) g)
      go true h = region-whole k l L.main_dir (next_row L.main_dir g sp) (next-row-grid L.main_dir g sp w e) h
      go false h = w

  -- ---- set_row_height: only a horizontal layout's cursor changes, whose bottom is not its open edge
  row-height-grid : (d : Direction) (g : Region) (y : Float) → WholeRegion k d g → Edge k y → is_horizontal d ≡ true → GridRegion k d (with_cursor g (set_bottom g.cursor (add binary32 g.cursor.top y)))
  unfolding closed is_horizontal
  row-height-grid LeftToRight g y w e h =
      let G = region-grid k l LeftToRight g w in
      record { inner = G.inner; outer = G.outer; cursor = record { left = G.cursor.left; top = G.cursor.top; right = G.cursor.right; bottom = grid-add k l w.cursor.top e } }
  row-height-grid RightToLeft g y w e h =
      let G = region-grid k l RightToLeft g w in
      record { inner = G.inner; outer = G.outer; cursor = record { left = G.cursor.left; top = G.cursor.top; right = G.cursor.right; bottom = grid-add k l w.cursor.top e } }
  row-height-grid TopDown g y w e h = absurd (true≢false (sym h))
  row-height-grid BottomUp g y w e h = absurd (true≢false (sym h))

  pub set-row-height-whole : (L : Layout) (g : Region) (y : Float) → WholeRegion k L.main_dir g → Edge k y → region_fault L.main_dir (set_row_height L g y) ≡ 0 → WholeRegion k L.main_dir (set_row_height L g y)
  unfolding set_row_height
  set-row-height-whole L g y w e h = go L.main_wrap (is_horizontal L.main_dir) (row-height-grid L.main_dir g y w e) h
    where
      go : (b c : Bool) → (c ≡ true → GridRegion k L.main_dir (with_cursor g (set_bottom g.cursor (add binary32 g.cursor.top y)))) → region_fault L.main_dir (cond (b && c) (with_cursor g (set_bottom g.cursor (add binary32 g.cursor.top y))) g) ≡ 0 → WholeRegion k L.main_dir (cond (b && c) (with_cursor g (set_bottom g.cursor (add binary32 g.cursor.top y))) g)
      go true true f h = region-whole k l L.main_dir (with_cursor g (set_bottom g.cursor (add binary32 g.cursor.top y))) (f refl) h
      go true false f h = w
      go false c f h = w
