-- In a grid: a placer in whole steps stays so where the grid's remembered widths, heights and spacings are whole; and whatever memory the
-- grid was given, min_rect, max_rect and the cursor's top stay whole. For steps of 1 to 1/64 point. Assumes nothing.
use mathlib.Core.Path.{◌≡◌, refl, sym, ap, ◌∙◌}
use mathlib.Core.Bool.{Bool, true, false, cond, ◌&&◌, true≢false}
use Prim.Native.Nat.{ℕ, ◌≤◌}
use native.Mathlib.Omega.{arith}
use lib.Dec.{T, ltb}
use lib.IntN.{◌+ℤ◌}
use lib.Ieee.{Float, binary32, add}
use lib.Pow.{pow_mono}
use Rattle.emath.specs.Rectangles.{zero_f}
use Rattle.emath.specs.Domain.{within}
use Rattle.emath.specs.Steps.{val, Edge, most}
use Rattle.emath.proofs.Whole.{Within, sum, within-unsigned_abs}
use Rattle.emath.proofs.Exact.{Small}
use Rattle.emath.proofs.Values.{val-add}
use Rattle.emath.proofs.Edges.{within-steps}
use Rattle.emath.proofs.Refusals.{edges-within, rect-none}
use Rattle.region.specs.Regions as regions
use Rattle.region.specs.Regions.{with_cursor}
use Rattle.region.specs.Refusals.{closed, cursor_fault}
use Rattle.region.specs.Steps.{WholeRect, WholeCursor, WholeRegion}
use Rattle.region.proofs.Answers.{region-none}
use Rattle.grid.specs.Grids as grid-rules
use Rattle.grid.specs.Refusals.{fits_grid}
use Rattle.placer.specs.Refusals.{placer_fault}
use Rattle.placer.specs.Rules.{set_cursor, moved_past, advance_after_rects, end_row, expand_to_include_rect, next_widget_space_ignore_wrap_justify, limited_across, limited_down, set_max_width, set_max_height}
use Rattle.placer.specs.Steps.{WholePlacer, WholeAcross, WholeDown, WholeTops}
use Rattle.placer.proofs.Answers.{placer-region}
use Rattle.placer.proofs.WholePlacers.{WholeIf, RectIf, RegionIf, edge-whole-if, rect-if, region-if, rect-whole, region-whole, space-if, union-if}
use Rattle.emath.specs.declared.Rect.{Rect}
use Rattle.emath.specs.declared.Vec2.{Vec2}
use Rattle.region.specs.declared.Direction.{Direction}
use Rattle.region.specs.declared.Direction.TheVariants.{LeftToRight, RightToLeft, TopDown, BottomUp}
use Rattle.layout.specs.declared.Layout.{Layout}
use Rattle.region.specs.declared.Region.{Region}
use Rattle.grid.specs.declared.GridLayout.{GridLayout}
use Rattle.placer.specs.declared.Placer.{Placer}

abbrev placer_of : Bool → GridLayout → Layout → Region → Placer
placer_of b g L r = record { has_grid = b; grid = g; layout = L; region = r }

-- ---- a grid's directions leave the cursor's left and top closed
left-edge : (k : ℕ) (d : Direction) (c : Rect) → fits_grid d ≡ true → WholeCursor k d c → Edge k c.left
unfolding closed fits_grid
left-edge k LeftToRight c h w = w.left
left-edge k RightToLeft c h w = absurd (true≢false (sym h))
left-edge k TopDown c h w = w.left
left-edge k BottomUp c h w = absurd (true≢false (sym h))

top-edge : (k : ℕ) (d : Direction) (c : Rect) → fits_grid d ≡ true → WholeCursor k d c → Edge k c.top
unfolding closed fits_grid
top-edge k LeftToRight c h w = w.top
top-edge k RightToLeft c h w = absurd (true≢false (sym h))
top-edge k TopDown c h w = w.top
top-edge k BottomUp c h w = absurd (true≢false (sym h))

top_within : (d : Direction) (c : Rect) → fits_grid d ≡ true → cursor_fault d c ≡ 0 → T (within c.top)
unfolding cursor_fault closed fits_grid
top_within LeftToRight c f h = (edges-within (closed LeftToRight c) h).top
top_within RightToLeft c f h = absurd (true≢false (sym f))
top_within TopDown c f h = (edges-within (closed TopDown c) h).top
top_within BottomUp c f h = absurd (true≢false (sym f))

module _ (k : ℕ) (l : k ≤ 6) where
  -- ---- sums of three edges
  few : {x : Float} → (e : Edge k x) → Within 4194304 e.steps
  few e = let w : Within (most k) e.steps = within-unsigned_abs e.steps e.few in omega (arith, pow_mono {i = k} {j = 6} l)

  plus-sum : {x y z : Float} → Edge k x → Edge k y → Edge k z → WholeIf k (add binary32 x (add binary32 y z))
  plus-sum {x} {y} {z} a b c t =
      let A = few a in
      let B = few b in
      let C = few c in
      let e : add binary32 x (add binary32 y z) ≡ val k (a.steps +ℤ (b.steps +ℤ c.steps))
      = rw (a.is, b.is, c.is) (ap (add binary32 (val k a.steps)) (val-add k (omega arith) b.steps c.steps (omega arith) (omega arith)) ∙ val-add k (omega arith) a.steps (b.steps +ℤ c.steps) (omega arith) (omega (arith, sum b.steps c.steps))) in
      let S : Small (a.steps +ℤ (b.steps +ℤ c.steps)) = omega (arith, sum b.steps c.steps, sum a.steps (b.steps +ℤ c.steps)) in
      record { steps = a.steps +ℤ (b.steps +ℤ c.steps); few = within-steps k (omega arith) (a.steps +ℤ (b.steps +ℤ c.steps)) S (rw e at t); is = e }

  sum-plus : {x y z : Float} → Edge k x → Edge k y → Edge k z → WholeIf k (add binary32 (add binary32 x y) z)
  sum-plus {x} {y} {z} a b c t =
      let A = few a in
      let B = few b in
      let C = few c in
      let e : add binary32 (add binary32 x y) z ≡ val k (a.steps +ℤ b.steps +ℤ c.steps)
      = rw (a.is, b.is, c.is) (ap (λ (v : Float). add binary32 v (val k c.steps)) (val-add k (omega arith) a.steps b.steps (omega arith) (omega arith)) ∙ val-add k (omega arith) (a.steps +ℤ b.steps) c.steps (omega (arith, sum a.steps b.steps)) (omega arith)) in
      let S : Small (a.steps +ℤ b.steps +ℤ c.steps) = omega (arith, sum a.steps b.steps, sum (a.steps +ℤ b.steps) c.steps) in
      record { steps = a.steps +ℤ b.steps +ℤ c.steps; few = within-steps k (omega arith) (a.steps +ℤ b.steps +ℤ c.steps) S (rw e at t); is = e }

  -- ---- the cursor after a cell, and after a row
  past-cell : (g : GridLayout) (c v : Rect) → RectIf k l c → Edge k c.left → WholeAcross k g → RectIf k l (grid-rules.advance g c v).cursor
  unfolding grid-rules.advance grid-rules.advanced
  past-cell g c v w e a = go (ltb g.col 32 && ltb g.row 128)
    where
      go : (b : Bool) → RectIf k l (cond b (grid-rules.advanced g c v) (record { grid = g; cursor = c })).cursor
      go true = record { left = plus-sum e (a.widths g.col) a.gap; top = w.top; right = w.right; bottom = w.bottom }
      go false = w

  past_row : (g : GridLayout) (c : Rect) → RectIf k l c → Edge k c.top → WholeIf k g.initial_available.left → WholeDown k g → RectIf k l (grid-rules.end_row g c).cursor
  unfolding grid-rules.end_row grid-rules.row_ended
  past_row g c w e a d = go (ltb g.row 128)
    where
      go : (b : Bool) → RectIf k l (cond b (grid-rules.row_ended g c) (record { grid = g; cursor = c })).cursor
      go true = record { left = a; top = sum-plus e d.gap (d.heights g.row); right = w.right; bottom = w.bottom }
      go false = w

  -- ---- a placer in whole steps
  included-if : (g : Region) (c f : Rect) → RectIf k l g.min_rect → RectIf k l g.max_rect → RectIf k l c → RectIf k l f → RegionIf k l (regions.expand_to_include_rect (with_cursor g c) f)
  unfolding regions.expand_to_include_rect
  included-if g c f i o w e = record { inner = union-if k l g.min_rect f i e; outer = union-if k l g.max_rect f o e; cursor = w }

  pub advance-after-rects-grid : (p : Placer) (f v : Rect) (sp : Vec2) → p.has_grid ≡ true → fits_grid p.layout.main_dir ≡ true → WholePlacer k p → WholeAcross k p.grid → WholeRect k f
      → placer_fault (advance_after_rects p f v sp) ≡ 0 → WholePlacer k (advance_after_rects p f v sp)
  unfolding advance_after_rects moved_past set_cursor expand_to_include_rect
  advance-after-rects-grid p f v sp g d w a F h = rw g (go (rw g at h))
    where
      c : Rect
      c = (grid-rules.advance p.grid p.region.cursor v).cursor

      go : placer_fault (placer_of true (grid-rules.advance p.grid p.region.cursor v).grid p.layout (regions.expand_to_include_rect (with_cursor p.region c) f)) ≡ 0
          → WholeRegion k p.layout.main_dir (regions.expand_to_include_rect (with_cursor p.region c) f)
      go h =
          let i = region-if k l p.layout.main_dir p.region w in
          region-whole k l p.layout.main_dir (regions.expand_to_include_rect (with_cursor p.region c) f)
          (included-if p.region c f i.inner i.outer (past-cell p.grid p.region.cursor v i.cursor (left-edge k p.layout.main_dir p.region.cursor d w.cursor) a) (rect-if k l f F))
          (placer-region (placer_of true (grid-rules.advance p.grid p.region.cursor v).grid p.layout (regions.expand_to_include_rect (with_cursor p.region c) f)) h)

  pub end-row-grid : (p : Placer) (sp : Vec2) → p.has_grid ≡ true → fits_grid p.layout.main_dir ≡ true → WholePlacer k p → WholeAcross k p.grid → WholeDown k p.grid
      → placer_fault (end_row p sp) ≡ 0 → WholePlacer k (end_row p sp)
  unfolding end_row set_cursor
  end-row-grid p sp g d w a b h = rw g (go (rw g at h))
    where
      c : Rect
      c = (grid-rules.end_row p.grid p.region.cursor).cursor

      go : placer_fault (placer_of true (grid-rules.end_row p.grid p.region.cursor).grid p.layout (with_cursor p.region c)) ≡ 0 → WholeRegion k p.layout.main_dir (with_cursor p.region c)
      go h =
          let i = region-if k l p.layout.main_dir p.region w in
          region-whole k l p.layout.main_dir (with_cursor p.region c)
          (record { inner = i.inner; outer = i.outer; cursor = past_row p.grid p.region.cursor i.cursor (top-edge k p.layout.main_dir p.region.cursor d w.cursor) (edge-whole-if k l a.start) b })
          (placer-region (placer_of true (grid-rules.end_row p.grid p.region.cursor).grid p.layout (with_cursor p.region c)) h)

  -- ---- whatever memory the grid was given: min_rect, max_rect and the cursor's top
  pub record TopsIf (g : Region) : Type 0 where
    pub inner : RectIf k l g.min_rect
    pub outer : RectIf k l g.max_rect
    pub top : WholeIf k g.cursor.top

  pub tops-if : (p : Placer) → WholeTops k p → TopsIf p.region
  tops-if p w = record { inner = rect-if k l p.region.min_rect w.inner; outer = rect-if k l p.region.max_rect w.outer; top = edge-whole-if k l w.top }

  pub tops-whole : (p : Placer) → fits_grid p.layout.main_dir ≡ true → TopsIf p.region → placer_fault p ≡ 0 → WholeTops k p
  tops-whole p d w h =
      let n = region-none p.layout.main_dir p.region (placer-region p h) in
      record {
        inner = rect-whole k l p.region.min_rect w.inner (rect-none p.region.min_rect n.0).0;
        outer = rect-whole k l p.region.max_rect w.outer (rect-none p.region.max_rect n.1).0;
        top = w.top (top_within p.layout.main_dir p.region.cursor d n.2);
      }

  same-top : (g : GridLayout) (c v : Rect) → (grid-rules.advance g c v).cursor.top ≡ c.top
  unfolding grid-rules.advance grid-rules.advanced
  same-top g c v = go (ltb g.col 32 && ltb g.row 128)
    where
      go : (b : Bool) → (cond b (grid-rules.advanced g c v) (record { grid = g; cursor = c })).cursor.top ≡ c.top
      go true = refl
      go false = refl

  row-top : (g : GridLayout) (c : Rect) → Edge k c.top → WholeDown k g → WholeIf k (grid-rules.end_row g c).cursor.top
  unfolding grid-rules.end_row grid-rules.row_ended
  row-top g c e d = go (ltb g.row 128)
    where
      go : (b : Bool) → WholeIf k (cond b (grid-rules.row_ended g c) (record { grid = g; cursor = c })).cursor.top
      go true = sum-plus e d.gap (d.heights g.row)
      go false = edge-whole-if k l e

  module _ (p : Placer) (d : fits_grid p.layout.main_dir ≡ true) (w : WholeTops k p) where
    pub advance-after-rects-tops : (f v : Rect) (sp : Vec2) → p.has_grid ≡ true → WholeRect k f → placer_fault (advance_after_rects p f v sp) ≡ 0 → WholeTops k (advance_after_rects p f v sp)
    unfolding advance_after_rects moved_past set_cursor expand_to_include_rect regions.expand_to_include_rect
    advance-after-rects-tops f v sp g F h = rw g (tops-whole (placer_of true (grid-rules.advance p.grid p.region.cursor v).grid p.layout (regions.expand_to_include_rect (with_cursor p.region (grid-rules.advance p.grid p.region.cursor v).cursor) f)) d
        (record { inner = union-if k l p.region.min_rect f (tops-if p w).inner (rect-if k l f F); outer = union-if k l p.region.max_rect f (tops-if p w).outer (rect-if k l f F); top = rw (same-top p.grid p.region.cursor v) (edge-whole-if k l w.top) })
        (rw g at h))

    pub end-row-tops : (sp : Vec2) → p.has_grid ≡ true → WholeDown k p.grid → placer_fault (end_row p sp) ≡ 0 → WholeTops k (end_row p sp)
    unfolding end_row set_cursor
    end-row-tops sp g b h = rw g (tops-whole (placer_of true (grid-rules.end_row p.grid p.region.cursor).grid p.layout (with_cursor p.region (grid-rules.end_row p.grid p.region.cursor).cursor)) d
        (record { inner = (tops-if p w).inner; outer = (tops-if p w).outer; top = row-top p.grid p.region.cursor w.top b })
        (rw g at h))

    pub set-max-height-tops : (v : Float) → placer_fault (set_max_height k p v) ≡ 0 → WholeTops k (set_max_height k p v)
    unfolding set_max_height limited_down
    set-max-height-tops v h =
        let r = next_widget_space_ignore_wrap_justify k p (record { x = zero_f; y = v }) in
        let s = space-if k l p (record { x = zero_f; y = v }) in
        let i = tops-if p w in
        let m = union-if k l (record { left = p.region.max_rect.left; top = r.top; right = p.region.max_rect.right; bottom = r.bottom }) p.region.min_rect
        (record { left = i.outer.left; top = s.top; right = i.outer.right; bottom = s.bottom }) i.inner in
        tops-whole (set_max_height k p v) d (record { inner = i.inner; outer = m; top = m.top }) h

    pub set-max-width-tops : (v : Float) → placer_fault (set_max_width k p v) ≡ 0 → WholeTops k (set_max_width k p v)
    unfolding set_max_width limited_across
    set-max-width-tops v h =
        let r = next_widget_space_ignore_wrap_justify k p (record { x = v; y = zero_f }) in
        let s = space-if k l p (record { x = v; y = zero_f }) in
        let i = tops-if p w in
        let m = union-if k l (record { left = r.left; top = p.region.max_rect.top; right = r.right; bottom = p.region.max_rect.bottom }) p.region.min_rect
        (record { left = s.left; top = i.outer.top; right = s.right; bottom = i.outer.bottom }) i.inner in
        tops-whole (set_max_width k p v) d (record { inner = i.inner; outer = m; top = i.top }) h
