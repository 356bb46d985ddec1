-- Whole steps in, whole steps out: a placer in whole steps stays so under every accepted call with arguments in whole steps, with a grid
-- or without; and where a grid was given a memory that is off the step, min_rect, max_rect and the cursor's top stay whole all the same.
-- For steps of 1 to 1/64 point. Assumes nothing.
use mathlib.Core.Path.{◌≡◌, refl}
use mathlib.Core.Logic.{◌⊎◌, inl, inr}
use mathlib.Core.Bool.{Bool, true, false, cond}
use Prim.Native.Nat.{ℕ, ◌≤◌}
use native.Mathlib.Omega.{arith}
use lib.Dec.{T}
use lib.Ieee.{Float, inf, of_bits, neg, lt, le, eq}
use Rattle.emath.specs.Rectangles.{min_f, max_f, zero_f, round_ui, round_rect, union, extend_with_x, extend_with_y, align_within}
use Rattle.emath.specs.Domain.{within}
use Rattle.emath.specs.Steps.{Edge}
use Rattle.emath.specs.Refusals.{edges_fault}
use Rattle.emath.proofs.MinMax.{min-one-of, max-one-of}
use Rattle.emath.proofs.Edges.{round-edge}
use Rattle.emath.proofs.Sums.{grid-edge, zero-grid}
use Rattle.emath.proofs.Refusals.{edges-within, rect-none}
use Rattle.region.specs.Regions as regions
use Rattle.layout.specs.Rules as layout-rules
use Rattle.region.specs.Regions.{infinity}
use Rattle.layout.specs.Layouts.{align2}
use Rattle.region.specs.Refusals.{zero_if_open, closed, cursor_fault, region_fault}
use Rattle.region.specs.Steps.{WholeRect, WholeRegion}
use Rattle.region.proofs.Answers.{region-none}
use Rattle.region.proofs.WholeRegions.{eq-inf-is, neg-infinity}
use Rattle.placer.specs.Refusals.{placer_fault}
use Rattle.placer.specs.Rules.{with_region, expand_to_include_x, expand_to_include_y, next_widget_space_ignore_wrap_justify, limited_across, limited_down, set_max_width, set_max_height, grown_across, grown_down, set_min_width, set_min_height}
use Rattle.placer.specs.Steps.{WholePlacer}
use Rattle.placer.proofs.Answers.{placer-region}
use Rattle.emath.specs.declared.Rect.{Rect}
use Rattle.emath.specs.declared.Vec2.{Vec2}
use Rattle.region.specs.declared.Direction.{Direction}
use Rattle.region.specs.declared.Direction.TheVariants.{LeftToRight, RightToLeft, TopDown, BottomUp}
use Rattle.region.specs.declared.Region.{Region}
use Rattle.placer.specs.declared.Placer.{Placer}

-- ---- whole wherever it is within the limit: an infinity and a NaN are so, and every rounded edge
abbrev pub WholeIf : ℕ → Float → Type 0
WholeIf k v = T (within v) → Edge k v

no-inf : (t : Bool) → T (within (inf t)) → ⊥
unfolding within le lt eq neg of_bits
no-inf true u = u
no-inf false u = u

module _ (k : ℕ) (l : k ≤ 6) where
  pub edge-whole-if : {v : Float} → Edge k v → WholeIf k v
  edge-whole-if e t = e

  round-whole-if : (x : Float) → WholeIf k (round_ui k x)
  round-whole-if x t = round-edge k (omega arith) x t

  either : (z x y : Float) → WholeIf k x → WholeIf k y → (z ≡ x) ⊎ (z ≡ y) → WholeIf k z
  either z x y f g (inl e) t = rw e (f (rw e at t))
  either z x y f g (inr e) t = rw e (g (rw e at t))

  pub min-whole-if : {x y : Float} → WholeIf k x → WholeIf k y → WholeIf k (min_f x y)
  min-whole-if {x} {y} f g = either (min_f x y) x y f g (min-one-of x y)

  pub max-whole-if : {x y : Float} → WholeIf k x → WholeIf k y → WholeIf k (max_f x y)
  max-whole-if {x} {y} f g = either (max_f x y) x y f g (max-one-of x y)

  pub zero-whole-if : WholeIf k zero_f
  zero-whole-if t = grid-edge k (omega arith) (zero-grid k (omega arith)) t

  -- an open edge, at its infinity or not
  open-whole-if : (i : Float) {v : Float} → WholeIf k v → WholeIf k (zero_if_open i v)
  unfolding zero_if_open
  open-whole-if i {v} f = go (eq v i)
    where
      go : (b : Bool) → WholeIf k (cond b zero_f v)
      go true = zero-whole-if
      go false = f

  -- ---- a region's edges, each whole if it is within the limit
  pub record RectIf (r : Rect) : Type 0 where
    pub left : WholeIf k r.left
    pub top : WholeIf k r.top
    pub right : WholeIf k r.right
    pub bottom : WholeIf k r.bottom

  pub record RegionIf (g : Region) : Type 0 where
    pub inner : RectIf g.min_rect
    pub outer : RectIf g.max_rect
    pub cursor : RectIf g.cursor

  pub rect-whole : (r : Rect) → RectIf r → edges_fault r ≡ 0 → WholeRect k r
  rect-whole r w h =
      let i = edges-within r h in
      record { left = w.left i.left; top = w.top i.top; right = w.right i.right; bottom = w.bottom i.bottom }

  closed-if : (d : Direction) (c : Rect) → RectIf c → RectIf (closed d c)
  unfolding closed
  closed-if LeftToRight c w = record { left = w.left; top = w.top; right = open-whole-if infinity w.right; bottom = w.bottom }
  closed-if RightToLeft c w = record { left = open-whole-if (neg infinity) w.left; top = w.top; right = w.right; bottom = w.bottom }
  closed-if TopDown c w = record { left = w.left; top = w.top; right = w.right; bottom = open-whole-if infinity w.bottom }
  closed-if BottomUp c w = record { left = w.left; top = open-whole-if (neg infinity) w.top; right = w.right; bottom = w.bottom }

  pub region-whole : (d : Direction) (g : Region) → RegionIf g → region_fault d g ≡ 0 → WholeRegion k d g
  region-whole d g w h =
      let p = region-none d g h in
      record {
        inner = rect-whole g.min_rect w.inner (rect-none g.min_rect p.0).0;
        outer = rect-whole g.max_rect w.outer (rect-none g.max_rect p.1).0;
        cursor = rect-whole (closed d g.cursor) (closed-if d g.cursor w.cursor) (unfold cursor_fault in p.2);
      }

  -- back: an open edge that counts as 0 is an infinity, which is not within the limit
  unopened : (t : Bool) (v : Float) → Edge k (zero_if_open (inf t) v) → WholeIf k v
  unfolding zero_if_open
  unopened t v e = go (eq v (inf t)) (eq-inf-is t v) e
    where
      go : (b : Bool) → (b ≡ true → v ≡ inf t) → Edge k (cond b zero_f v) → WholeIf k v
      go true f e u = absurd (no-inf t (rw (f refl) at u))
      go false f e u = e

  pub rect-if : (r : Rect) → WholeRect k r → RectIf r
  rect-if r w = record { left = edge-whole-if w.left; top = edge-whole-if w.top; right = edge-whole-if w.right; bottom = edge-whole-if w.bottom }

  pub cursor-if : (d : Direction) (c : Rect) → WholeRect k (closed d c) → RectIf c
  unfolding closed
  cursor-if LeftToRight c w = record { left = edge-whole-if w.left; top = edge-whole-if w.top; right = unopened false c.right w.right; bottom = edge-whole-if w.bottom }
  cursor-if RightToLeft c w = record { left = unopened true c.left (rw neg-infinity at w.left); top = edge-whole-if w.top; right = edge-whole-if w.right; bottom = edge-whole-if w.bottom }
  cursor-if TopDown c w = record { left = edge-whole-if w.left; top = edge-whole-if w.top; right = edge-whole-if w.right; bottom = unopened false c.bottom w.bottom }
  cursor-if BottomUp c w = record { left = edge-whole-if w.left; top = unopened true c.top (rw neg-infinity at w.top); right = edge-whole-if w.right; bottom = edge-whole-if w.bottom }

  pub region-if : (d : Direction) (g : Region) → WholeRegion k d g → RegionIf g
  region-if d g w = record { inner = rect-if g.min_rect w.inner; outer = rect-if g.max_rect w.outer; cursor = cursor-if d g.cursor w.cursor }

  -- ---- the rectangle of the next widget is rounded
  pub space-if : (p : Placer) (s : Vec2) → RectIf (next_widget_space_ignore_wrap_justify k p s)
  unfolding next_widget_space_ignore_wrap_justify layout-rules.next_widget_space_ignore_wrap_justify layout-rules.align_size_within_rect round_rect
  space-if p s =
      let r = align_within (align2 p.layout) s (layout-rules.next_frame_ignore_wrap k p.layout p.region s) in
      record { left = round-whole-if r.left; top = round-whole-if r.top; right = round-whole-if r.right; bottom = round-whole-if r.bottom }

  -- ---- calls that only grow or limit the region
  pub union-if : (a b : Rect) → RectIf a → RectIf b → RectIf (union a b)
  unfolding union
  union-if a b v w = record { left = min-whole-if v.left w.left; top = min-whole-if v.top w.top; right = max-whole-if v.right w.right; bottom = max-whole-if v.bottom w.bottom }

  pub x-if : (r : Rect) (x : Float) → RectIf r → WholeIf k x → RectIf (extend_with_x r x)
  unfolding extend_with_x
  x-if r x w e = record { left = min-whole-if w.left e; top = w.top; right = max-whole-if w.right e; bottom = w.bottom }

  pub y-if : (r : Rect) (y : Float) → RectIf r → WholeIf k y → RectIf (extend_with_y r y)
  unfolding extend_with_y
  y-if r y w e = record { left = w.left; top = min-whole-if w.top e; right = w.right; bottom = max-whole-if w.bottom e }

  pub region-x : (g : Region) (x : Float) → RegionIf g → WholeIf k x → RegionIf (regions.expand_to_include_x g x)
  unfolding regions.expand_to_include_x
  region-x g x w e = record { inner = x-if g.min_rect x w.inner e; outer = x-if g.max_rect x w.outer e; cursor = x-if g.cursor x w.cursor e }

  pub region-y : (g : Region) (y : Float) → RegionIf g → WholeIf k y → RegionIf (regions.expand_to_include_y g y)
  unfolding regions.expand_to_include_y
  region-y g y w e = record { inner = y-if g.min_rect y w.inner e; outer = y-if g.max_rect y w.outer e; cursor = y-if g.cursor y w.cursor e }

  pub limited-across : (g : Region) (r : Rect) → RegionIf g → RectIf r → RegionIf (limited_across g r)
  unfolding limited_across
  limited-across g r w e =
      let m = union-if (record { left = r.left; top = g.max_rect.top; right = r.right; bottom = g.max_rect.bottom }) g.min_rect
      (record { left = e.left; top = w.outer.top; right = e.right; bottom = w.outer.bottom }) w.inner in
      record { inner = w.inner; outer = m; cursor = record { left = m.left; top = w.cursor.top; right = m.right; bottom = w.cursor.bottom } }

  pub limited-down : (g : Region) (r : Rect) → RegionIf g → RectIf r → RegionIf (limited_down g r)
  unfolding limited_down
  limited-down g r w e =
      let m = union-if (record { left = g.max_rect.left; top = r.top; right = g.max_rect.right; bottom = r.bottom }) g.min_rect
      (record { left = w.outer.left; top = e.top; right = w.outer.right; bottom = e.bottom }) w.inner in
      record { inner = w.inner; outer = m; cursor = record { left = w.cursor.left; top = m.top; right = w.cursor.right; bottom = m.bottom } }

  -- a region in whole steps, if its new edges are whole wherever they are within the limit
  after : (p : Placer) (g : Region) → RegionIf g → placer_fault (with_region p g) ≡ 0 → WholePlacer k (with_region p g)
  after p g w h = region-whole p.layout.main_dir g w (placer-region (with_region p g) h)

  pub set-max-width-whole : (p : Placer) (v : Float) → WholePlacer k p → placer_fault (set_max_width k p v) ≡ 0 → WholePlacer k (set_max_width k p v)
  unfolding set_max_width
  set-max-width-whole p v w h =
      let r = next_widget_space_ignore_wrap_justify k p (record { x = v; y = zero_f }) in
      after p (limited_across p.region r) (limited-across p.region r (region-if p.layout.main_dir p.region w) (space-if p (record { x = v; y = zero_f }))) h

  pub set-max-height-whole : (p : Placer) (v : Float) → WholePlacer k p → placer_fault (set_max_height k p v) ≡ 0 → WholePlacer k (set_max_height k p v)
  unfolding set_max_height
  set-max-height-whole p v w h =
      let r = next_widget_space_ignore_wrap_justify k p (record { x = zero_f; y = v }) in
      after p (limited_down p.region r) (limited-down p.region r (region-if p.layout.main_dir p.region w) (space-if p (record { x = zero_f; y = v }))) h

  pub set-min-width-whole : (p : Placer) (v : Float) → WholePlacer k p → placer_fault (set_min_width k p v) ≡ 0 → WholePlacer k (set_min_width k p v)
  unfolding set_min_width grown_across expand_to_include_x
  set-min-width-whole p v w h = go (le v zero_f) h
    where
      r : Rect
      r = next_widget_space_ignore_wrap_justify k p (record { x = v; y = zero_f })

      grown : Region
      grown = regions.expand_to_include_x (regions.expand_to_include_x p.region r.left) r.right

      go : (b : Bool) → placer_fault (cond b p (with_region p grown)) ≡ 0 → WholePlacer k (cond b p (with_region p grown))
      go true h = w
      go false h =
          let s = space-if p (record { x = v; y = zero_f }) in
          after p grown (region-x (regions.expand_to_include_x p.region r.left) r.right (region-x p.region r.left (region-if p.layout.main_dir p.region w) s.left) s.right) h

  pub set-min-height-whole : (p : Placer) (v : Float) → WholePlacer k p → placer_fault (set_min_height k p v) ≡ 0 → WholePlacer k (set_min_height k p v)
  unfolding set_min_height grown_down expand_to_include_y
  set-min-height-whole p v w h = go (le v zero_f) h
    where
      r : Rect
      r = next_widget_space_ignore_wrap_justify k p (record { x = zero_f; y = v })

      grown : Region
      grown = regions.expand_to_include_y (regions.expand_to_include_y p.region r.top) r.bottom

      go : (b : Bool) → placer_fault (cond b p (with_region p grown)) ≡ 0 → WholePlacer k (cond b p (with_region p grown))
      go true h = w
      go false h =
          let s = space-if p (record { x = zero_f; y = v }) in
          after p grown (region-y (regions.expand_to_include_y p.region r.top) r.bottom (region-y p.region r.top (region-if p.layout.main_dir p.region w) s.top) s.bottom) h
