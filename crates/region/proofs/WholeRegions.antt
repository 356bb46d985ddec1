-- Whole steps in, whole steps out: a region in whole steps stays so under every accepted call whose arguments are whole steps.
-- For steps of 1 to 1/128 point. Assumes nothing.
use mathlib.Core.Path.{◌≡◌, refl, sym}
use mathlib.Core.Logic.{◌⊎◌, inl, inr}
use mathlib.Core.Bool.{Bool, true, false, cond, true≢false}
use Prim.Native.Nat.{ℕ, ◌≤◌}
use lib.Ieee.{Float, nan, inf, fin, neg, eq}
use Rattle.emath.specs.Rectangles.{round_rect, min_f, max_f, extend_with_x, extend_with_y, union, zero_f}
use Rattle.emath.specs.Steps.{Edge}
use Rattle.emath.specs.Refusals.{edges_fault}
use Rattle.emath.proofs.Refusals.{edges-within, rect-none}
use Rattle.emath.proofs.Edges.{round-edge}
use Rattle.emath.proofs.Sums.{OnGrid, edge-grid, grid-edge, zero-grid, grid-min, grid-max, grid-not-inf, max-inf, min-inf}
use Rattle.region.specs.Regions.{infinity, expand_to_include_rect, expand_to_include_x, expand_to_include_y}
use Rattle.region.specs.Refusals.{zero_if_open, closed, cursor_fault, region_fault}
use Rattle.region.specs.Steps.{WholeRect, WholeCursor, WholeRegion}
use Rattle.region.proofs.Answers.{region-none}
use Rattle.emath.specs.declared.Rect.{Rect}
use Rattle.region.specs.declared.Direction.{Direction}
use Rattle.region.specs.declared.Direction.TheVariants.{LeftToRight, RightToLeft, TopDown, BottomUp}
use Rattle.region.specs.declared.Region.{Region}

pub record GridRect (k : ℕ) (r : Rect) : Type 0 where
  pub left : OnGrid k r.left
  pub top : OnGrid k r.top
  pub right : OnGrid k r.right
  pub bottom : OnGrid k r.bottom

abbrev pub GridCursor : ℕ → Direction → Rect → Type 0
GridCursor k d c = GridRect k (closed d c)

pub record GridRegion (k : ℕ) (d : Direction) (g : Region) : Type 0 where
  pub inner : GridRect k g.min_rect
  pub outer : GridRect k g.max_rect
  pub cursor : GridCursor k d g.cursor

pub neg-infinity : neg infinity ≡ inf true
unfolding neg
neg-infinity = refl

pub eq-inf-is : (t : Bool) (v : Float) → eq v (inf t) ≡ true → v ≡ inf t
unfolding eq
eq-inf-is t nan h = absurd (true≢false (sym h))
eq-inf-is true (inf true) h = refl
eq-inf-is false (inf true) h = absurd (true≢false (sym h))
eq-inf-is true (inf false) h = absurd (true≢false (sym h))
eq-inf-is false (inf false) h = refl
eq-inf-is t (fin s m e) h = absurd (true≢false (sym h))

module _ (k : ℕ) (l : k ≤ 7) where
  -- ---- a rounded rectangle within the limit
  pub rounded-whole : (r : Rect) → edges_fault (round_rect k r) ≡ 0 → WholeRect k (round_rect k r)
  rounded-whole r h =
      let w = edges-within (round_rect k r) h in
      unfold round_rect in record {
        left = round-edge k l r.left w.left;
        top = round-edge k l r.top w.top;
        right = round-edge k l r.right w.right;
        bottom = round-edge k l r.bottom w.bottom;
      }

  -- ---- the open edge: at its infinity, or on the grid
  open-split : (t : Bool) (v : Float) → OnGrid k (zero_if_open (inf t) v) → (v ≡ inf t) ⊎ OnGrid k v
  unfolding zero_if_open
  open-split t v g = go (eq v (inf t)) (eq-inf-is t v) g
    where
      go : (b : Bool) → (b ≡ true → v ≡ inf t) → OnGrid k (cond b zero_f v) → (v ≡ inf t) ⊎ OnGrid k v
      go true f g = inl (f refl)
      go false f g = inr g

  grid-open : (t : Bool) {v : Float} → OnGrid k v → OnGrid k (zero_if_open (inf t) v)
  unfolding zero_if_open
  grid-open t g = rw (grid-not-inf k l g t) g

  inf-open : (t : Bool) → OnGrid k (zero_if_open (inf t) (inf t))
  unfolding zero_if_open eq
  inf-open true = zero-grid k l
  inf-open false = zero-grid k l

  pub open-max : (v x : Float) → OnGrid k (zero_if_open infinity v) → OnGrid k x → OnGrid k (zero_if_open infinity (max_f v x))
  open-max v x h g = go (open-split false v h)
    where
      go : (v ≡ infinity) ⊎ OnGrid k v → OnGrid k (zero_if_open infinity (max_f v x))
      go (inl e) = rw (e, max-inf k l g) (inf-open false)
      go (inr f) = grid-open false (grid-max k l f g)

  pub open-min : (v x : Float) → OnGrid k (zero_if_open (neg infinity) v) → OnGrid k x → OnGrid k (zero_if_open (neg infinity) (min_f v x))
  open-min v x h g = rw neg-infinity (go (open-split true v (rw neg-infinity at h)))
    where
      go : (v ≡ inf true) ⊎ OnGrid k v → OnGrid k (zero_if_open (inf true) (min_f v x))
      go (inl e) = rw (e, min-inf k l g) (inf-open true)
      go (inr f) = grid-open true (grid-min k l f g)

  pub far-right : OnGrid k (zero_if_open infinity infinity)
  far-right = inf-open false

  pub far-left : OnGrid k (zero_if_open (neg infinity) (neg infinity))
  far-left = rw neg-infinity (inf-open true)

  -- ---- between whole steps and the grid
  pub rect-grid : (r : Rect) → WholeRect k r → GridRect k r
  rect-grid r w = record { left = edge-grid k l w.left; top = edge-grid k l w.top; right = edge-grid k l w.right; bottom = edge-grid k l w.bottom }

  rect-whole : (r : Rect) → GridRect k r → edges_fault r ≡ 0 → WholeRect k r
  rect-whole r g h =
      let w = edges-within r h in
      record { left = grid-edge k l g.left w.left; top = grid-edge k l g.top w.top; right = grid-edge k l g.right w.right; bottom = grid-edge k l g.bottom w.bottom }

  pub region-grid : (d : Direction) (g : Region) → WholeRegion k d g → GridRegion k d g
  region-grid d g w = record { inner = rect-grid g.min_rect w.inner; outer = rect-grid g.max_rect w.outer; cursor = rect-grid (closed d g.cursor) w.cursor }

  pub cursor-whole : (d : Direction) (c : Rect) → GridCursor k d c → cursor_fault d c ≡ 0 → WholeCursor k d c
  unfolding cursor_fault
  cursor-whole d c g h = rect-whole (closed d c) g h

  pub region-whole : (d : Direction) (g : Region) → GridRegion k d g → region_fault d g ≡ 0 → WholeRegion k d g
  region-whole d g w h =
      let p = region-none d g h in
      record {
        inner = rect-whole g.min_rect w.inner (rect-none g.min_rect p.0).0;
        outer = rect-whole g.max_rect w.outer (rect-none g.max_rect p.1).0;
        cursor = cursor-whole d g.cursor w.cursor p.2;
      }

  -- ---- expanding to include a value
  rect-x : (r : Rect) (x : Float) → GridRect k r → OnGrid k x → GridRect k (extend_with_x r x)
  unfolding extend_with_x
  rect-x r x h g = record { left = grid-min k l h.left g; top = h.top; right = grid-max k l h.right g; bottom = h.bottom }

  rect-y : (r : Rect) (y : Float) → GridRect k r → OnGrid k y → GridRect k (extend_with_y r y)
  unfolding extend_with_y
  rect-y r y h g = record { left = h.left; top = grid-min k l h.top g; right = h.right; bottom = grid-max k l h.bottom g }

  cursor-x : (d : Direction) (c : Rect) (x : Float) → GridCursor k d c → OnGrid k x → GridCursor k d (extend_with_x c x)
  unfolding closed extend_with_x
  cursor-x LeftToRight c x h g = record { left = grid-min k l h.left g; top = h.top; right = open-max c.right x h.right g; bottom = h.bottom }
  cursor-x RightToLeft c x h g = record { left = open-min c.left x h.left g; top = h.top; right = grid-max k l h.right g; bottom = h.bottom }
  cursor-x TopDown c x h g = record { left = grid-min k l h.left g; top = h.top; right = grid-max k l h.right g; bottom = h.bottom }
  cursor-x BottomUp c x h g = record { left = grid-min k l h.left g; top = h.top; right = grid-max k l h.right g; bottom = h.bottom }

  cursor-y : (d : Direction) (c : Rect) (y : Float) → GridCursor k d c → OnGrid k y → GridCursor k d (extend_with_y c y)
  unfolding closed extend_with_y
  cursor-y LeftToRight c y h g = record { left = h.left; top = grid-min k l h.top g; right = h.right; bottom = grid-max k l h.bottom g }
  cursor-y RightToLeft c y h g = record { left = h.left; top = grid-min k l h.top g; right = h.right; bottom = grid-max k l h.bottom g }
  cursor-y TopDown c y h g = record { left = h.left; top = grid-min k l h.top g; right = h.right; bottom = open-max c.bottom y h.bottom g }
  cursor-y BottomUp c y h g = record { left = h.left; top = open-min c.top y h.top g; right = h.right; bottom = grid-max k l h.bottom g }

  pub region-x : (d : Direction) (g : Region) (x : Float) → GridRegion k d g → OnGrid k x → GridRegion k d (expand_to_include_x g x)
  unfolding expand_to_include_x
  region-x d g x h e = record { inner = rect-x g.min_rect x h.inner e; outer = rect-x g.max_rect x h.outer e; cursor = cursor-x d g.cursor x h.cursor e }

  pub region-y : (d : Direction) (g : Region) (y : Float) → GridRegion k d g → OnGrid k y → GridRegion k d (expand_to_include_y g y)
  unfolding expand_to_include_y
  region-y d g y h e = record { inner = rect-y g.min_rect y h.inner e; outer = rect-y g.max_rect y h.outer e; cursor = cursor-y d g.cursor y h.cursor e }

  rect-union : (a b : Rect) → GridRect k a → GridRect k b → GridRect k (union a b)
  unfolding union
  rect-union a b g h = record { left = grid-min k l g.left h.left; top = grid-min k l g.top h.top; right = grid-max k l g.right h.right; bottom = grid-max k l g.bottom h.bottom }

  -- ---- Region's calls
  pub expand-to-include-rect-whole : (d : Direction) (g : Region) (r : Rect) → WholeRegion k d g → WholeRect k r → region_fault d (expand_to_include_rect g r) ≡ 0 → WholeRegion k d (expand_to_include_rect g r)
  unfolding expand_to_include_rect
  expand-to-include-rect-whole d g r w e h =
      let G = region-grid d g w in
      let E = rect-grid r e in
      region-whole d (record { min_rect = union g.min_rect r; max_rect = union g.max_rect r; cursor = g.cursor })
      (record { inner = rect-union g.min_rect r G.inner E; outer = rect-union g.max_rect r G.outer E; cursor = G.cursor }) h

  pub expand-to-include-x-whole : (d : Direction) (g : Region) (x : Float) → WholeRegion k d g → Edge k x → region_fault d (expand_to_include_x g x) ≡ 0 → WholeRegion k d (expand_to_include_x g x)
  expand-to-include-x-whole d g x w e h = region-whole d (expand_to_include_x g x) (region-x d g x (region-grid d g w) (edge-grid k l e)) h

  pub expand-to-include-y-whole : (d : Direction) (g : Region) (y : Float) → WholeRegion k d g → Edge k y → region_fault d (expand_to_include_y g y) ≡ 0 → WholeRegion k d (expand_to_include_y g y)
  expand-to-include-y-whole d g y w e h = region-whole d (expand_to_include_y g y) (region-y d g y (region-grid d g w) (edge-grid k l e)) h
