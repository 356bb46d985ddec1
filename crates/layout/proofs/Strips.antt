-- A strip, exactly: left to right, no wrap, no justify, top-aligned, any main align. The frame starts at the cursor's left and at the top
-- and has the child's size; the widget is the frame; the cursor moves on by the width and the spacing. For steps of 1 to 1/128 point.
-- Assumes nothing.
use mathlib.Core.Path.{◌≡◌, ◌∙◌, ap}
use mathlib.Core.Bool.{false}
use Prim.Native.Nat.{ℕ, ◌≤◌, ◌+◌}
use native.Mathlib.Omega.{arith}
use lib.Dec.{T}
use lib.IntN.{ℤ, ◌-ℤ◌, ◌+ℤ◌}
use lib.Signed.{lt_z}
use lib.Ieee.{Float, lt, of_bits}
use Rattle.emath.proofs.Whole.{sum, Within, ◌≤ᶻ◌, max_z, min_z, max-is, min-is, whole, lt_z→, diff}
use Rattle.emath.specs.Rectangles.{min_f, intersect, is_infinite, centred, aligned_to, align_on, align_within, round_rect}
use Rattle.emath.specs.Steps.{val}
use Rattle.emath.proofs.Tests.{bools}
use Rattle.emath.proofs.Exact.{Small, val_is, ne-is}
use Rattle.emath.proofs.Values.{val-lt, val-max, val-min, inf-lt, eq-inf, val-add, val-sub, val-div, val-finer, twice}
use Rattle.emath.proofs.Rounding.{val-whole}
use Rattle.region.specs.Directions.{is_horizontal}
use Rattle.layout.specs.Layouts.{is_center, horizontal_align, vertical_align, align2, horizontal_justify, vertical_justify}
use Rattle.region.specs.Regions.{infinity}
use Rattle.layout.specs.Rules.{align_size_within_rect, from_cursor, not_negative, not_negative_rect, available_from_cursor_max_rect, available_rect_before_wrap, fills_width, fills_height, frame_width, frame_height, frame_align2, moved_down, frame_rect, next_frame_ignore_wrap, wraps, next_frame, raised, justify_and_align, grown_across, row_for, past_widget, advance_after_rects}
use Rattle.layout.specs.Strips.{strip}
use Rattle.emath.specs.declared.Rect.{Rect}
use Rattle.emath.specs.declared.Vec2.{Vec2}
use Rattle.region.specs.declared.Direction.TheVariants.{LeftToRight}
use Rattle.emath.specs.declared.Align.{Align}
use Rattle.emath.specs.declared.Align.TheVariants.{Min, Center, Max}
use Rattle.region.specs.declared.Region.{Region}

-- ---- in steps: a rectangle, a size, a range
abbrev pub rect_in : ℕ → ℤ → ℤ → ℤ → ℤ → Rect
rect_in k left top right bottom = record { left = val k left; top = val k top; right = val k right; bottom = val k bottom }

abbrev pub size_in : ℕ → ℤ → ℤ → Vec2
size_in k w h = record { x = val k w; y = val k h }

abbrev pub strip_cursor : ℕ → ℤ → ℤ → ℤ → Rect
strip_cursor k x t b = record { left = val k x; top = val k t; right = infinity; bottom = val k b }

not-below : (a b : ℤ) → b ≤ᶻ a → lt_z a b ≡ false
not-below a b h = bools (lt_z a b) false (λ (u : T (lt_z a b)). absurd (omega (arith, lt_z→ a b u))) (λ (u : ⊥). absurd u)

module _ (k : ℕ) (l : k ≤ 7) where
  lt_val : (a b : ℤ) → Small a → Small b → b ≤ᶻ a → lt (val k a) (val k b) ≡ false
  lt_val a b A B h = val-lt k (omega arith) a b A B ∙ not-below a b h

  min-far : (a : ℤ) → Small a → min_f (val k a) infinity ≡ val k a
  unfolding min_f
  min-far a A = rw (inf-lt k (omega arith) a A false, ne-is (val k a) k a (val_is k a (omega arith) A))

  not-far : (a : ℤ) → Small a → is_infinite (val k a) ≡ false
  not-far a A = eq-inf k (omega arith) a A false

  -- ---- what is available: not inside out
  module _ (n : Rect) (ml : Float) (x t r mb b : ℤ) (X : Within 8388608 x) (Y : Within 8388608 t) (R : Within 8388608 r) (M : Within 8388608 mb) (B : Within 8388608 b) (tall : t ≤ᶻ b) where
    abbrev pub strip_region : Region
    strip_region = record { min_rect = n; max_rect = record { left = ml; top = val k t; right = val k r; bottom = val k mb }; cursor = strip_cursor k x t b }

    abbrev reach : ℤ
    reach = max_z (max_z r x) x

    abbrev depth : ℤ
    depth = min_z (max_z mb t) b

    available-is : available_rect_before_wrap LeftToRight strip_region ≡ rect_in k x t reach depth
    unfolding available_rect_before_wrap available_from_cursor_max_rect from_cursor intersect not_negative_rect not_negative
    available-is =
        let k9 : k ≤ 149 = omega arith in
        let Xs : Small x = omega arith in
        let Ts : Small t = omega arith in
        let Rs : Small r = omega arith in
        let Ms : Small mb = omega arith in
        let Bs : Small b = omega arith in
        let Rx : Small (max_z r x) = omega (arith, max-is r x) in
        let Re : Small reach = omega (arith, max-is r x, max-is (max_z r x) x) in
        let Mt : Small (max_z mb t) = omega (arith, max-is mb t) in
        let De : Small depth = omega (arith, max-is mb t, min-is (max_z mb t) b) in
        let xx : max_z x x ≡ x = omega (arith, whole, max-is x x) in
        let ttt : max_z t t ≡ t = omega (arith, whole, max-is t t) in
        let wide : x ≤ᶻ reach = omega (arith, max-is r x, max-is (max_z r x) x) in
        let deep : t ≤ᶻ depth = omega (arith, max-is mb t, min-is (max_z mb t) b) in
        rw (
          val-max k k9 x x Xs Xs,
          xx,
          val-max k k9 t t Ts Ts,
          ttt,
          val-max k k9 r x Rs Xs,
          val-max k k9 (max_z r x) x Rx Xs,
          val-max k k9 mb t Ms Ts,
          min-far reach Re,
          val-min k k9 (max_z mb t) b Mt Bs,
          lt_val reach x Re Xs wide,
          lt_val depth t De Ts deep,
        )

    -- ---- next_frame
    module _ (a : Align) (w h : ℤ) (W : Within 8388608 w) (H : Within 8388608 h) (sp : Vec2) where
      framed_is : frame_rect (strip a) (strip_cursor k x t b) (rect_in k x t reach depth) (size_in k w h) ≡ rect_in k x t (x +ℤ w) (t +ℤ h)
      unfolding frame_rect moved_down align_within frame_align2 align2 frame_width frame_height fills_width fills_height horizontal_align vertical_align horizontal_justify vertical_justify is_horizontal is_center align_on aligned_to
      framed_is =
          let k9 : k ≤ 149 = omega arith in
          rw (
            not-far w (omega arith),
            not-far h (omega arith),
            val-add k k9 x w (omega arith) (omega arith),
            val-add k k9 t h (omega arith) (omega arith),
            lt_val t t (omega arith) (omega arith) (omega arith),
          )

      pub strip-frame : next_frame k (strip a) strip_region (size_in k w h) sp ≡ rect_in k x t (x +ℤ w) (t +ℤ h)
      unfolding next_frame wraps next_frame_ignore_wrap round_rect
      strip-frame =
          let k9 : k ≤ 149 = omega arith in
          rw (
            available-is,
            framed_is,
            val-whole k x k9 (omega arith),
            val-whole k t k9 (omega arith),
            val-whole k (x +ℤ w) k9 (omega (arith, sum x w)),
            val-whole k (t +ℤ h) k9 (omega (arith, sum t h)),
          )

  -- ---- justify_and_align: the widget is the frame
  module _ (x t w h : ℤ) (X : Within 8388608 x) (Y : Within 8388608 t) (W : Within 8388608 w) (H : Within 8388608 h) (XW : Within 8388608 (x +ℤ w)) (Th : Within 8388608 (t +ℤ h)) where
    across : (a : Align) → align_on a (val k x) (val k (x +ℤ w)) (val k w) ≡ record { min = val k x; max = val k (x +ℤ w) }
    unfolding align_on aligned_to centred of_bits
    across Min = rw (not-far w (omega arith), val-add k (omega arith) x w (omega arith) (omega arith))
    across Max =
        let e : x +ℤ w -ℤ w ≡ x = omega (arith, whole, sum x w, diff (x +ℤ w) w) in
        rw (not-far w (omega arith), val-sub k (omega arith) (x +ℤ w) w (omega arith) (omega arith), e)
    across Center =
        let k9 : k ≤ 149 = omega arith in
        let D : Small (x +ℤ (x +ℤ w)) = omega (arith, sum x (x +ℤ w)) in
        let e : x +ℤ (x +ℤ w) -ℤ w ≡ x +ℤ x = omega (arith, whole, sum x w, sum x (x +ℤ w), diff (x +ℤ (x +ℤ w)) w, sum x x) in
        let f : val (1 + k) (x +ℤ x) ≡ val k x = ap (val (1 + k)) (twice x) ∙ val-finer k 1 x in
        rw (
          not-far w (omega arith),
          val-add k k9 x (x +ℤ w) (omega arith) (omega arith),
          val-div k 1 (x +ℤ (x +ℤ w)) D k9,
          val-div k 1 w (omega arith) k9,
          val-sub (1 + k) (omega arith) (x +ℤ (x +ℤ w)) w D (omega arith),
          e,
          f,
          val-add k k9 x w (omega arith) (omega arith),
        )

    pub strip-widget : (a : Align) → justify_and_align k (strip a) (rect_in k x t (x +ℤ w) (t +ℤ h)) (size_in k w h) ≡ rect_in k x t (x +ℤ w) (t +ℤ h)
    unfolding justify_and_align raised align_size_within_rect align_within align2 horizontal_align vertical_align horizontal_justify vertical_justify is_horizontal round_rect
    strip-widget a =
        let k9 : k ≤ 149 = omega arith in
        let down : align_on Min (val k t) (val k (t +ℤ h)) (val k h) ≡ record { min = val k t; max = val k (t +ℤ h) }
        = unfold align_on aligned_to in rw (not-far h (omega arith), val-add k k9 t h (omega arith) (omega arith)) in
        rw (
          across a,
          down,
          val-whole k x k9 (omega arith),
          val-whole k t k9 (omega arith),
          val-whole k (x +ℤ w) k9 (omega arith),
          val-whole k (t +ℤ h) k9 (omega arith),
        )

    -- ---- advance_after_rects
    pub strip-advance : (a : Align) (b s : ℤ) (sp : Vec2) → Within 8388608 b → Within 8388608 s → sp.x ≡ val k s
        → advance_after_rects (strip a) (strip_cursor k x t b) (rect_in k x t (x +ℤ w) (t +ℤ h)) (rect_in k x t (x +ℤ w) (t +ℤ h)) sp ≡ strip_cursor k (x +ℤ w +ℤ s) t (max_z b (t +ℤ h))
    unfolding advance_after_rects past_widget row_for grown_across is_horizontal
    strip-advance a b s sp B S e =
        let k9 : k ≤ 149 = omega arith in
        let ttt : min_z t t ≡ t = omega (arith, whole, min-is t t) in
        rw (
          e,
          val-add k k9 (x +ℤ w) s (omega arith) (omega arith),
          val-min k k9 t t (omega arith) (omega arith),
          ttt,
          val-max k k9 b (t +ℤ h) (omega arith) (omega arith),
        )
