-- Where min_rect starts: after every accepted region_from_max_rect, whatever max_rect, it is one point, in whole steps; and a max_rect in
-- whole steps gives a region in whole steps. For steps of 1 to 1/64 point. Assumes nothing.
use mathlib.Core.Path.{◌≡◌, refl, sym, ap, ◌∙◌}
use mathlib.Core.Bool.{false}
use Prim.Native.Nat.{ℕ, ◌≤◌}
use native.Mathlib.Omega.{arith}
use lib.Dec.{T}
use lib.IntN.{pos, ◌+ℤ◌}
use lib.Ieee.{Float, fin, binary32, of_bits, round, add, sub, mul, div, eq, fits}
use lib.Ieee.Fits.{sub-fits, div-fits}
use Rattle.emath.specs.Rectangles.{zero_f, half_f, two_f, centre_on, from_center_size, centred, aligned_to, align_on, align_within, round_f, round_by, round_ui, round_rect}
use Rattle.emath.specs.Domain.{within}
use Rattle.emath.specs.Refusals.{edges_fault}
use Rattle.emath.specs.Steps.{val, Edge}
use Rattle.emath.proofs.Whole.{sum, whole}
use Rattle.emath.proofs.Values.{val-add}
use Rattle.emath.proofs.Zeros.{plus_zero, val-zero}
use Rattle.emath.proofs.Unique.{less_zero, round-plus-zero}
use Rattle.emath.proofs.Centres.{centre-edge}
use Rattle.emath.proofs.Sums.{edge-small}
use Rattle.emath.proofs.Refusals.{edges-within, rect-none}
use Rattle.layout.specs.Layouts.{align2}
use Rattle.region.specs.Regions.{zero_vec}
use Rattle.layout.specs.Rules.{align_size_within_rect, initial_cursor, available_rect_before_wrap, frame_rect, next_frame_ignore_wrap, next_widget_space_ignore_wrap_justify, next_widget_position, region_from_max_rect}
use Rattle.region.specs.Refusals.{closed, region_fault}
use Rattle.region.specs.Steps.{WholeRect, WholeRegion, OnePoint}
use Rattle.region.proofs.Answers.{region-none}
use Rattle.region.proofs.WholeRegions.{GridRect, GridCursor, far-right, far-left, rect-grid, cursor-whole}
use Rattle.emath.specs.declared.Rect.{Rect}
use Rattle.emath.specs.declared.Align.{Align}
use Rattle.emath.specs.declared.Align.TheVariants.{Min, Center, Max}
use Rattle.region.specs.declared.Direction.{Direction}
use Rattle.region.specs.declared.Direction.TheVariants.{LeftToRight, RightToLeft, TopDown, BottomUp}
use Rattle.layout.specs.declared.Layout.{Layout}
use Rattle.region.specs.declared.Region.{Region}

-- ---- a control of no size, aligned and rounded: both its edges are one
aligned-same : (k : ℕ) → k ≤ 149 → (a : Align) (low high : Float) → T (fits binary32 low) → T (fits binary32 high) → round_ui k (align_on a low high zero_f).max ≡ round_ui k (align_on a low high zero_f).min
unfolding align_on aligned_to centred eq of_bits
aligned-same k l Min low high f g = round-plus-zero k l low f
aligned-same k l Center low high f g =
    round-plus-zero k l (sub binary32 (centre_on low high) (div binary32 zero_f two_f)) (sub-fits binary32 (centre_on low high) (div binary32 zero_f two_f))
aligned-same k l Max low high f g = sym (ap (round_ui k) (less_zero high g))

nothing : mul binary32 half_f zero_f ≡ plus_zero
unfolding mul round of_bits
nothing = refl

module _ (k : ℕ) (l : k ≤ 6) where
  -- low and high are min_rect's on one axis
  pub record SeedAxis (low high : Float) : Type 0 where
    pub same : low ≡ high
    pub edge : Edge k low

  add_nothing : (w : Float) → Edge k w → add binary32 w plus_zero ≡ w
  add_nothing w e =
      let z = e.steps in
      let Z = edge-small k (omega arith) e in
      let i : z +ℤ pos 0 ≡ z = omega (arith, whole, sum z (pos 0)) in
      rw (e.is, ← val-zero k) (val-add k (omega arith) z (pos 0) (omega arith) (omega arith) ∙ ap (val k) i)

  seed-axis : (x w : Float) → w ≡ round_ui k x → T (within (sub binary32 (centre_on w w) (mul binary32 half_f zero_f))) → SeedAxis (sub binary32 (centre_on w w) (mul binary32 half_f zero_f)) (add binary32 (centre_on w w) (mul binary32 half_f zero_f))
  seed-axis x w e t =
      let c = centre_on w w in
      let z : sub binary32 c (mul binary32 half_f zero_f) ≡ c = rw nothing (less_zero c (div-fits binary32 (add binary32 w w) two_f)) in
      let i = centre-edge k l x (rw (z, e) at t) in
      let d : c ≡ w = rw e i.same in
      let E : Edge k w = rw e i.edge in
      record { same = z ∙ d ∙ sym (rw (nothing, d) (add_nothing w E)); edge = rw (z, d) E }

  -- on one axis: from the frame's edges to min_rect's
  axis : (a : Align) (low high : Float) → T (fits binary32 low) → T (fits binary32 high)
      → T (within (sub binary32 (centre_on (round_ui k (align_on a low high zero_f).min) (round_ui k (align_on a low high zero_f).max)) (mul binary32 half_f zero_f)))
      → SeedAxis (sub binary32 (centre_on (round_ui k (align_on a low high zero_f).min) (round_ui k (align_on a low high zero_f).max)) (mul binary32 half_f zero_f)) (add binary32 (centre_on (round_ui k (align_on a low high zero_f).min) (round_ui k (align_on a low high zero_f).max)) (mul binary32 half_f zero_f))
  axis a low high f g t =
      let e = aligned-same k (omega arith) a low high f g in
      rw e (seed-axis (align_on a low high zero_f).min (round_ui k (align_on a low high zero_f).min) refl (rw e at t))

  -- a rounded edge is an f32
  round-fits : (x : Float) → T (fits binary32 (round_ui k x))
  unfolding round_by
  round-fits x = div-fits binary32 (round_f (mul binary32 x (fin false 1 (pos k)))) (fin false 1 (pos k))

  -- ---- min_rect of a region from max_rect
  pub record Seeded (r : Rect) : Type 0 where
    pub point : OnePoint r
    pub whole : WholeRect k r

  seeded : (L : Layout) (g : Region) → edges_fault (from_center_size (next_widget_position k L g) zero_vec) ≡ 0 → Seeded (from_center_size (next_widget_position k L g) zero_vec)
  unfolding next_widget_position next_widget_space_ignore_wrap_justify align_size_within_rect align_within round_rect next_frame_ignore_wrap
  seeded L g h =
      let w = edges-within (from_center_size (next_widget_position k L g) zero_vec) h in
      let f = frame_rect L g.cursor (available_rect_before_wrap L.main_dir g) zero_vec in
      let x = axis (align2 L).x (round_ui k f.left) (round_ui k f.right) (round-fits f.left) (round-fits f.right) w.left in
      let y = axis (align2 L).y (round_ui k f.top) (round_ui k f.bottom) (round-fits f.top) (round-fits f.bottom) w.top in
      record {
        point = record { across = x.same; down = y.same };
        whole = record { left = x.edge; top = y.edge; right = rw (← x.same) x.edge; bottom = rw (← y.same) y.edge };
      }

  pub region-from-max-rect-seeded : (L : Layout) (m : Rect) → region_fault L.main_dir (region_from_max_rect k L m) ≡ 0 → Seeded (region_from_max_rect k L m).min_rect
  unfolding region_from_max_rect
  region-from-max-rect-seeded L m h =
      let d = L.main_dir in
      let p = region-none d (region_from_max_rect k L m) h in
      seeded L (record { min_rect = m; max_rect = m; cursor = initial_cursor d m }) (rect-none (region_from_max_rect k L m).min_rect p.0).0

  -- ---- and the whole region
  initial-grid : (d : Direction) (m : Rect) → WholeRect k m → GridCursor k d (initial_cursor d m)
  unfolding closed initial_cursor
  initial-grid d m w = go d (rect-grid k (omega arith) m w)
    where
      go : (d : Direction) → GridRect k m → GridCursor k d (initial_cursor d m)
      go LeftToRight g = record { left = g.left; top = g.top; right = far-right k (omega arith); bottom = g.bottom }
      go RightToLeft g = record { left = far-left k (omega arith); top = g.top; right = g.right; bottom = g.bottom }
      go TopDown g = record { left = g.left; top = g.top; right = g.right; bottom = far-right k (omega arith) }
      go BottomUp g = record { left = g.left; top = far-left k (omega arith); right = g.right; bottom = g.bottom }

  pub region-from-max-rect-whole : (L : Layout) (m : Rect) → WholeRect k m → region_fault L.main_dir (region_from_max_rect k L m) ≡ 0 → WholeRegion k L.main_dir (region_from_max_rect k L m)
  region-from-max-rect-whole L m w h =
      let d = L.main_dir in
      let p = region-none d (region_from_max_rect k L m) h in
      let s = region-from-max-rect-seeded L m h in
      record { inner = s.whole; outer = (unfold region_from_max_rect in w); cursor = (unfold region_from_max_rect in cursor-whole k (omega arith) d (initial_cursor d m) (initial-grid d m w) p.2) }
