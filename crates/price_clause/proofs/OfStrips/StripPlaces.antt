-- A strip's placer in whole steps, and where it starts: H puts the cursor and min_rect at max_rect's corner, whatever the main align. For
-- steps of 1 to 1/64 point. Assumes nothing.
use mathlib.Core.Path.{◌≡◌, refl, sym, ap, ◌∙◌}
use mathlib.Core.Bool.{Bool, true, false, ◌||◌, true≢false}
use Prim.Native.Nat.{ℕ, ◌≤◌}
use native.Mathlib.Omega.{arith}
use lib.Dec.{T}
use lib.IntN.{ℤ, pos, ◌+ℤ◌, ◌-ℤ◌}
use lib.Signed.{le_z, lt_z}
use lib.Ieee.{binary32, of_bits, round, add, sub, mul, le, lt}
use Rattle.emath.specs.Rectangles.{zero_f, half_f, centre_on}
use Rattle.emath.specs.Domain.{inside_out}
use Rattle.emath.specs.Refusals.{rect_fault}
use Rattle.emath.specs.Steps.{val}
use Rattle.emath.proofs.Tests.{T_of, is-no}
use Rattle.emath.proofs.Whole.{Within, ◌≤ᶻ◌, sum, diff, le_z→, nlt_z→, whole}
use Rattle.emath.proofs.Values.{val-add, val-sub, val-lt, val-le, val-halve}
use Rattle.emath.proofs.Zeros.{plus_zero, val-zero}
use Rattle.emath.proofs.Sums.{edge-small}
use Rattle.emath.proofs.Refusals.{rect-none}
use Rattle.emath.specs.declared.Rect.{Rect}
use Rattle.emath.specs.declared.Align.{Align}
use Rattle.region.specs.Regions.{zero_vec}
use Rattle.layout.specs.Rules.{next_frame_ignore_wrap, wraps, next_frame, align_size_within_rect, raised, justify_and_align, next_widget_space_ignore_wrap_justify, next_widget_position, initial_cursor, region_from_max_rect}
use Rattle.region.specs.Directions.{is_horizontal}
use Rattle.layout.specs.Layouts.{horizontal_justify, vertical_justify}
use Rattle.region.specs.Steps.{WholeRect}
use Rattle.layout.specs.Strips.{strip}
use Rattle.layout.proofs.Strips.{rect_in, strip_cursor, strip-frame, strip-widget}
use Rattle.region.specs.declared.Region.{Region}
use Rattle.grid.specs.Grids.{empty_grid}
use Rattle.grid.specs.declared.GridLayout.{GridLayout}
use Rattle.placer.specs.Rules.{new_placer}
use Rattle.placer.specs.declared.Placer.{Placer}

-- ---- a place: the cursor is at x and reaches down to lowest; min_rect goes from (left, top) to (right, bottom); max_rect has the same top;
-- and the grid is the one that a placer without a grid does not look at
pub record Place : Type 0 where
  pub grid : GridLayout
  pub left : ℤ
  pub top : ℤ
  pub x : ℤ
  pub right : ℤ
  pub bottom : ℤ
  pub outer_left : ℤ
  pub outer_right : ℤ
  pub outer_bottom : ℤ
  pub lowest : ℤ

abbrev pub placer_at : ℕ → Align → Place → Placer
placer_at k a o = record {
  has_grid = false;
  grid = o.grid;
  layout = strip a;
  region = record {
    min_rect = rect_in k o.left o.top o.right o.bottom;
    max_rect = rect_in k o.outer_left o.top o.outer_right o.outer_bottom;
    cursor = strip_cursor k o.x o.top o.lowest;
  };
}

-- few enough that the sum of two is exact
abbrev pub Few : ℤ → Type 0
Few = Within 8388608

-- the cursor's bottom is below the top, and its left is right of min_rect's
pub record Sound (o : Place) : Type 0 where
  pub left : Few o.left
  pub top : Few o.top
  pub x : Few o.x
  pub right : Few o.right
  pub bottom : Few o.bottom
  pub outer_left : Few o.outer_left
  pub outer_right : Few o.outer_right
  pub outer_bottom : Few o.outer_bottom
  pub lowest : Few o.lowest
  pub tall : o.top ≤ᶻ o.lowest
  pub past : o.left ≤ᶻ o.x

-- ---- the order of floats is that of their steps
pub or_no : (b c : Bool) → b || c ≡ false → (b ≡ false) × (c ≡ false)
or_no true c h = absurd (true≢false h)
or_no false c h = (refl, h)

module _ (k : ℕ) (l : k ≤ 7) where
  pub le-steps : (x y : ℤ) → Few x → Few y → le (val k x) (val k y) ≡ true → x ≤ᶻ y
  le-steps x y X Y h =
      let t : T (le_z x y) = T_of (sym (val-le k (omega arith) x y (omega arith) (omega arith)) ∙ h) in
      omega (arith, le_z→ x y t)

  pub not-lt-steps : (x y : ℤ) → Few x → Few y → lt (val k x) (val k y) ≡ false → y ≤ᶻ x
  not-lt-steps x y X Y h =
      let t = is-no (lt_z x y) (sym (val-lt k (omega arith) x y (omega arith) (omega arith)) ∙ h) in
      omega (arith, nlt_z→ x y t)

  pub zero-steps : zero_f ≡ val k (pos 0)
  unfolding of_bits
  zero-steps = sym (val-zero k)

-- ---- after H: at max_rect's corner
abbrev pub started : ℤ → ℤ → ℤ → ℤ → Place
started left top right bottom = record {
  grid = empty_grid;
  left = left;
  top = top;
  x = left;
  right = left;
  bottom = top;
  outer_left = left;
  outer_right = right;
  outer_bottom = bottom;
  lowest = bottom;
}

started-sound : (left top right bottom : ℤ) → Few left → Few top → Few right → Few bottom → top ≤ᶻ bottom → Sound (started left top right bottom)
started-sound left top right bottom L Y R B tall =
    record { left = L; top = Y; x = L; right = L; bottom = Y; outer_left = L; outer_right = R; outer_bottom = B; lowest = B; tall = tall; past = omega arith }

nothing : mul binary32 half_f zero_f ≡ plus_zero
unfolding mul round of_bits
nothing = refl

plus-zero : (z : ℤ) → z +ℤ pos 0 ≡ z
plus-zero z = omega (arith, whole, sum z (pos 0))

less_zero : (z : ℤ) → z -ℤ pos 0 ≡ z
less_zero z = omega (arith, whole, diff z (pos 0))

module _ (k : ℕ) (l : k ≤ 6) where
  less-nothing : (z : ℤ) → Few z → sub binary32 (val k z) (mul binary32 half_f zero_f) ≡ val k z
  less-nothing z Z = rw (nothing, ← val-zero k) (val-sub k (omega arith) z (pos 0) (omega arith) (omega arith) ∙ ap (val k) (less_zero z))

  plus-nothing : (z : ℤ) → Few z → add binary32 (val k z) (mul binary32 half_f zero_f) ≡ val k z
  plus-nothing z Z = rw (nothing, ← val-zero k) (val-add k (omega arith) z (pos 0) (omega arith) (omega arith) ∙ ap (val k) (plus-zero z))

  centre-is : (z : ℤ) → Few z → centre_on (val k z) (val k z) ≡ val k z
  unfolding of_bits
  centre-is z Z = rw (val-add k (omega arith) z z (omega arith) (omega arith)) (val-halve k (omega arith) z (omega (arith, sum z z)))

  -- a control of no size, in max_rect from (left, top) to (right, bottom)
  module _ (a : Align) (left top right bottom : ℤ) (L : Few left) (Y : Few top) (R : Few right) (B : Few bottom) (tall : top ≤ᶻ bottom) where
    abbrev outer : Rect
    outer = rect_in k left top right bottom

    abbrev opening : Region
    opening = record { min_rect = outer; max_rect = outer; cursor = strip_cursor k left top bottom }

    no-frame : next_frame_ignore_wrap k (strip a) opening zero_vec ≡ rect_in k left top left top
    unfolding next_frame wraps
    no-frame =
        let k7 : k ≤ 7 = omega arith in
        let f = strip-frame k k7 outer (val k left) left top right bottom bottom L Y R B B tall a (pos 0) (pos 0) (omega arith) (omega arith) zero_vec in
        rw (zero-steps k k7) (rw (plus-zero left, plus-zero top) at f)

    no-widget : align_size_within_rect k (strip a) zero_vec (rect_in k left top left top) ≡ rect_in k left top left top
    unfolding justify_and_align raised horizontal_justify vertical_justify is_horizontal
    no-widget =
        let k7 : k ≤ 7 = omega arith in
        let w = strip-widget k k7 left top (pos 0) (pos 0) L Y (omega arith) (omega arith) (rw (plus-zero left) L) (rw (plus-zero top) Y) a in
        rw (zero-steps k k7) (rw (plus-zero left, plus-zero top) at w)

    start_is : new_placer k outer (strip a) ≡ placer_at k a (started left top right bottom)
    unfolding new_placer region_from_max_rect initial_cursor next_widget_position next_widget_space_ignore_wrap_justify
    start_is =
        rw (no-frame, no-widget, centre-is left L, centre-is top Y, less-nothing left L, less-nothing top Y, plus-nothing left L, plus-nothing top Y)

  -- any max_rect in whole steps that is not inside out
  right-side-up : (left top right bottom : ℤ) → Few top → Few bottom → rect_fault (rect_in k left top right bottom) ≡ 0 → top ≤ᶻ bottom
  unfolding inside_out
  right-side-up left top right bottom Y B e =
      let n = or_no (lt (val k right) (val k left)) (lt (val k bottom) (val k top)) (rect-none (rect_in k left top right bottom) e).1 in
      not-lt-steps k (omega arith) bottom top B Y n.1

  rect-is : (m : Rect) (left top right bottom : ℤ) → m.left ≡ val k left → m.top ≡ val k top → m.right ≡ val k right → m.bottom ≡ val k bottom → m ≡ rect_in k left top right bottom
  rect-is m left top right bottom e f g h = rw (← e, ← f, ← g, ← h)

pub record Started (k : ℕ) (a : Align) (m : Rect) (o : Place) : Type 0 where
  pub is : new_placer k m (strip a) ≡ placer_at k a o
  pub sound : Sound o

abbrev pub start_of : (k : ℕ) (m : Rect) → WholeRect k m → Place
start_of k m W = started W.left.steps W.top.steps W.right.steps W.bottom.steps

pub strip-starts : (k : ℕ) → k ≤ 6 → (a : Align) (m : Rect) (W : WholeRect k m) → rect_fault m ≡ 0 → Started k a m (start_of k m W)
strip-starts k l a m W e =
    let left = W.left.steps in
    let top = W.top.steps in
    let right = W.right.steps in
    let bottom = W.bottom.steps in
    let L = edge-small k (omega arith) W.left in
    let Y = edge-small k (omega arith) W.top in
    let R = edge-small k (omega arith) W.right in
    let B = edge-small k (omega arith) W.bottom in
    let i = rect-is k l m left top right bottom W.left.is W.top.is W.right.is W.bottom.is in
    let tall = right-side-up k l left top right bottom Y B (rw i at e) in
    record { is = ap (λ (r : Rect). new_placer k r (strip a)) i ∙ start_is k l a left top right bottom L Y R B tall; sound = started-sound left top right bottom L Y R B tall }
