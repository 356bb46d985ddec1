-- The height that a W notes in a grid: at least its control's, and at most its frame's, which is the larger of the control's and the one
-- remembered for the row. Where the cursor's top is whole. For steps of 1 to 1/64 point. Assumes nothing.
use Prim.Native.Nat.{ℕ, ◌≤◌, max}
use mathlib.Core.Path.{◌≡◌, refl, ap, ◌∙◌}
use mathlib.Core.List.{List, map}
use native.Mathlib.Omega.{arith}
use lib.ListN.{get_or, get_or-map}
use lib.IntN.{ℤ, pos, negsuc, nat_abs, ◌+ℤ◌}
use Rattle.emath.specs.Rectangles.{max_f, height, round_rect}
use Rattle.emath.specs.Steps.{val, most}
use Rattle.emath.proofs.Whole.{Within, ◌≤ᶻ◌, sum, diff, max_z, max-is, whole}
use Rattle.emath.proofs.Values.{val-add, val-max}
use Rattle.emath.proofs.Rounding.{val-whole}
use Rattle.emath.specs.declared.Rect.{Rect}
use Rattle.emath.specs.declared.Vec2.{Vec2}
use Rattle.grid.specs.Memories.{heights, row_height}
use Rattle.grid.specs.Grids.{next_cell, align_size_within_rect, prev_row_height}
use Rattle.grid.proofs.WidgetHeights.{tall, tall-in-bounds, widget-height}
use Rattle.grid.specs.declared.GridLayout.{GridLayout}
use Rattle.model.proofs.InFloats.Ticks.{len, cap}
use Rattle.pass_laws.proofs.Lists.{entry-get}

-- the limit is at most 2 ^ 22 steps
few-steps : (k : ℕ) → k ≤ 6 → most k ≤ 4194304
few-steps k l = omega (arith, cap k (most k) l refl)

-- ---- the row's remembered height
pub row-remembered : (k : ℕ) (g : GridLayout) (given : List ℕ) (mh : ℕ) → heights g.prev_state ≡ map (len k) given → g.min_cell_size.y ≡ len k mh
    → prev_row_height g g.row ≡ len k (get_or given g.row mh)
unfolding prev_row_height row_height
row-remembered k g given mh e m =
    entry-get (heights g.prev_state) g.row g.min_cell_size.y ∙ rw (e, m) (get_or-map (len k) given g.row mh)

module _ (k : ℕ) (l : k ≤ 6) (g : GridLayout) (c : Rect) (s : Vec2) (t : ℤ) (T : nat_abs t ≤ most k) (h rh : ℕ) (h_b : h ≤ most k) (r_b : rh ≤ most k)
    (top : c.top ≡ val k t) (size : s.y ≡ len k h) (row : prev_row_height g g.row ≡ len k rh) where
  small : (z : ℤ) → nat_abs z ≤ most k → Within 4194304 z
  small (pos n) b = omega (arith, few-steps k l)
  small (negsuc n) b = omega (arith, few-steps k l)

  Ts : Within 4194304 t
  Ts = small t T

  frame-top : (next_cell k g c s).top ≡ val k t
  unfolding next_cell round_rect
  frame-top = rw top (val-whole k t (omega arith) (omega (arith, Ts)))

  taller : max_f s.y (prev_row_height g g.row) ≡ val k (pos (max h rh))
  taller =
      let e : max_z (pos h) (pos rh) ≡ pos (max h rh) = omega (arith, whole, max-is (pos h) (pos rh)) in
      rw (size, row) (val-max k (omega arith) (pos h) (pos rh) (omega (arith, few-steps k l)) (omega (arith, few-steps k l)) ∙ ap (val k) e)

  frame-bottom : (next_cell k g c s).bottom ≡ val k (t +ℤ pos (max h rh))
  unfolding next_cell round_rect
  frame-bottom =
      rw (top, taller, val-add k (omega arith) t (pos (max h rh)) (omega (arith, Ts)) (omega (arith, few-steps k l)))
      (val-whole k (t +ℤ pos (max h rh)) (omega arith) (omega (arith, Ts, sum t (pos (max h rh)), few-steps k l)))

  pub noted-height : (v : ℕ) × (h ≤ v) × (v ≤ max h rh) × (height (align_size_within_rect k s (next_cell k g c s)) ≡ len k v)
  noted-height =
      let b = t +ℤ pos (max h rh) in
      let q = sum t (pos (max h rh)) in
      let n = few-steps k l in
      let A : Within 8388608 t = omega (arith, Ts) in
      let B : Within 8388608 b = omega (arith, Ts, q, n) in
      let f : h ≤ 8388608 = omega (arith, n) in
      let i : t +ℤ pos h ≤ᶻ b = omega (arith, q, sum t (pos h)) in
      let bounds = tall-in-bounds k (omega arith) t b A B h f i in
      let e = widget-height k (omega arith) t b A B h f i s (next_cell k g c s) frame-top frame-bottom size in
      found (tall k (omega arith) t b A B h f i) bounds.0 (omega (arith, bounds.1, diff b t, q)) e
    where
      found : (z : ℤ) → pos h ≤ᶻ z → z ≤ᶻ pos (max h rh) → height (align_size_within_rect k s (next_cell k g c s)) ≡ val k z
          → (v : ℕ) × (h ≤ v) × (v ≤ max h rh) × (height (align_size_within_rect k s (next_cell k g c s)) ≡ len k v)
      found (pos n) a b e = (n, omega (arith, a), omega (arith, b), e)
      found (negsuc n) a b e = absurd (omega (arith, a))
