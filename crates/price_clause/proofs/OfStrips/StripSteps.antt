-- One record of a strip, in whole steps: a W that is accepted has the cursor's left, the strip's top and its own size, moves the cursor
-- past itself by the spacing, and is included by min_rect; an E changes nothing. For steps of 1 to 1/64 point. Assumes nothing.
use mathlib.Core.Path.{◌≡◌, refl, ◌∙◌}
use mathlib.Core.Bool.{Bool, true, false, ◌||◌}
use mathlib.Core.List.{List, [], ◌∷◌, ◌++◌}
use Prim.Native.Nat.{ℕ, ◌+◌, ◌≤◌}
use native.Mathlib.Omega.{arith}
use lib.Dec.{T}
use lib.IntN.{ℤ, pos, ◌+ℤ◌}
use lib.Pow.{pow_mono}
use lib.Ieee.{Float, lt}
use Rattle.emath.specs.Rectangles.{zero_f, union}
use Rattle.emath.specs.Domain.{within, negative}
use Rattle.emath.specs.Refusals.{when, least, pair_fault, size_fault}
use Rattle.emath.specs.Steps.{val, most, Edge}
use Rattle.emath.proofs.Whole.{Within, within-unsigned_abs, ◌≤ᶻ◌, sum, max_z, max-is, min_z, min-is, whole}
use Rattle.emath.proofs.Exact.{Small}
use Rattle.emath.proofs.Values.{val-min, val-max}
use Rattle.emath.proofs.Edges.{within-steps}
use Rattle.emath.proofs.Sums.{edge-small}
use Rattle.emath.proofs.Refusals.{lesser-none, edges-within}
use Rattle.emath.specs.declared.Rect.{Rect}
use Rattle.emath.specs.declared.Vec2.{Vec2}
use Rattle.emath.specs.declared.Align.{Align}
use Rattle.region.specs.Regions as regions
use Rattle.layout.specs.Rules as layout-rules
use Rattle.region.specs.Refusals.{closed, cursor_fault}
use Rattle.region.proofs.Answers.{region-none}
use Rattle.layout.proofs.Strips.{rect_in, size_in, strip-frame, strip-widget, strip-advance}
use Rattle.region.specs.declared.Direction.TheVariants.{LeftToRight}
use Rattle.placer.specs.Rules.{next_space, justify_and_align, moved_past, set_cursor, expand_to_include_rect, advance_after_rects, end_row}
use Rattle.placer.specs.Refusals.{placer_fault, end_row_fault}
use Rattle.placer.specs.Operations.{checked_end_row}
use Rattle.placer.proofs.Answers.{changed-accepted, placer-region}
use Rattle.records.specs.declared.Step.{Step}
use Rattle.records.specs.declared.Step.TheVariants.{Widget, RowEnd}
use Rattle.sheet.specs.Pass.{Cell, cell_of, past_cell, Stepped, widget_step, stepped, Ran, followed, run_from}
use Rattle.sheet.proofs.Runs.{going, widget-placed}
use Rattle.price_clause.proofs.OfStrips.StripPlaces.{Place, placer_at, Few, Sound, or_no, not-lt-steps, zero-steps}

-- ---- past a control of w by h, with the spacing s
abbrev pub past_control : Place → ℤ → ℤ → ℤ → Place
past_control o s w h = record {
  grid = o.grid;
  left = o.left;
  top = o.top;
  x = o.x +ℤ w +ℤ s;
  right = max_z o.right (o.x +ℤ w);
  bottom = max_z o.bottom (o.top +ℤ h);
  outer_left = min_z o.outer_left o.x;
  outer_right = max_z o.outer_right (o.x +ℤ w);
  outer_bottom = max_z o.outer_bottom (o.top +ℤ h);
  lowest = max_z o.lowest (o.top +ℤ h);
}

few : (k : ℕ) → k ≤ 7 → (z : ℤ) → Small z → T (within (val k z)) → Few z
few k l z Z t = let w : Within (most k) z = within-unsigned_abs z (within-steps k l z Z t) in omega (arith, pow_mono {i = k} {j = 7} l)

union-is : (k : ℕ) → k ≤ 149 → (a b c d a' b' c' d' : ℤ) → Few a → Few b → Few c → Few d → Few a' → Few b' → Few c' → Few d'
    → union (rect_in k a b c d) (rect_in k a' b' c' d') ≡ rect_in k (min_z a a') (min_z b b') (max_z c c') (max_z d d')
unfolding union
union-is k l a b c d a' b' c' d' A B C D A' B' C' D' =
    rw (
      val-min k l a a' (omega arith) (omega arith),
      val-min k l b b' (omega arith) (omega arith),
      val-max k l c c' (omega arith) (omega arith),
      val-max k l d d' (omega arith) (omega arith),
    )

not_narrow : (k : ℕ) → k ≤ 7 → (w h : ℤ) → Few w → size_fault (size_in k w h) ≡ 0 → pos 0 ≤ᶻ w
unfolding size_fault least negative
not_narrow k l w h W e =
    let n = or_no (lt (val k w) zero_f) (lt (val k h) zero_f) (none (lt (val k w) zero_f || lt (val k h) zero_f) (lesser-none (pair_fault (val k w) (val k h)) (when (lt (val k w) zero_f || lt (val k h) zero_f) 6) e).1) in
    not-lt-steps k l w (pos 0) W (omega arith) (rw (zero-steps k l) at n.0)
  where
    none : (b : Bool) → when b 6 ≡ 0 → b ≡ false
    none true h = absurd (let z : ◌≡◌ {A = ℕ} 6 0 = h in omega arith)
    none false h = refl

-- ---- a W
module _ (k : ℕ) (l : k ≤ 6) (a : Align) (o : Place) (O : Sound o) (sp : Vec2) (s w h : ℤ) (gap : sp.x ≡ val k s) (S : Few s) (W : Few w) (H : Few h) where
  abbrev placed : Rect
  placed = rect_in k o.x o.top (o.x +ℤ w) (o.top +ℤ h)

  frame_is : next_space k (placer_at k a o) (size_in k w h) sp ≡ placed
  unfolding next_space
  frame_is =
      strip-frame k (omega arith) (rect_in k o.left o.top o.right o.bottom) (val k o.outer_left) o.x o.top o.outer_right o.outer_bottom o.lowest
      O.x O.top O.outer_right O.outer_bottom O.lowest O.tall a w h W H sp

  -- the frame is in the domain
  module _ (X : Few (o.x +ℤ w)) (Y : Few (o.top +ℤ h)) where
    widget-is : justify_and_align k (placer_at k a o) placed (size_in k w h) ≡ placed
    unfolding justify_and_align
    widget-is = strip-widget k (omega arith) o.x o.top w h O.x O.top W H X Y a

    past_is : advance_after_rects (placer_at k a o) placed placed sp ≡ placer_at k a (past_control o s w h)
    unfolding advance_after_rects moved_past set_cursor expand_to_include_rect regions.expand_to_include_rect
    past_is =
        let k9 : k ≤ 149 = omega arith in
        let one-top : min_z o.top o.top ≡ o.top = omega (arith, whole, min-is o.top o.top) in
        let one_left : min_z o.left o.x ≡ o.left = omega (arith, whole, min-is o.left o.x) in
        rw (
          strip-advance k (omega arith) o.x o.top w h O.x O.top W H X Y a o.lowest s sp O.lowest S gap,
          union-is k k9 o.left o.top o.right o.bottom o.x o.top (o.x +ℤ w) (o.top +ℤ h) O.left O.top O.right O.bottom O.x O.top X Y,
          union-is k k9 o.outer_left o.top o.outer_right o.outer_bottom o.x o.top (o.x +ℤ w) (o.top +ℤ h) O.outer_left O.top O.outer_right O.outer_bottom O.x O.top X Y,
          one_left,
          one-top,
        )

    next-within : placer_fault (placer_at k a (past_control o s w h)) ≡ 0 → Few (o.x +ℤ w +ℤ s)
    unfolding cursor_fault closed
    next-within e =
        let q = placer_at k a (past_control o s w h) in
        let c = (region-none LeftToRight q.region (placer-region q e)).2 in
        few k (omega arith) (o.x +ℤ w +ℤ s) (omega (arith, sum (o.x +ℤ w) s)) (edges-within (closed LeftToRight q.region.cursor) c).left

    past-sound : pos 0 ≤ᶻ s → pos 0 ≤ᶻ w → Few (o.x +ℤ w +ℤ s) → Sound (past_control o s w h)
    past-sound P Q N = record {
      left = O.left;
      top = O.top;
      x = N;
      right = omega (arith, max-is o.right (o.x +ℤ w));
      bottom = omega (arith, max-is o.bottom (o.top +ℤ h));
      outer_left = omega (arith, min-is o.outer_left o.x);
      outer_right = omega (arith, max-is o.outer_right (o.x +ℤ w));
      outer_bottom = omega (arith, max-is o.outer_bottom (o.top +ℤ h));
      lowest = omega (arith, max-is o.lowest (o.top +ℤ h));
      tall = omega (arith, max-is o.lowest (o.top +ℤ h));
      past = omega (arith, sum o.x w, sum (o.x +ℤ w) s);
    }

  abbrev step : Stepped
  step = widget_step sp (placer_at k a o) (size_in k w h) (cell_of k sp (placer_at k a o) (size_in k w h))

  record Passed : Type 0 where
    right : Few (o.x +ℤ w)
    bottom : Few (o.top +ℤ h)
    wide : pos 0 ≤ᶻ w
    placer : step.placer ≡ placer_at k a (past_control o s w h)
    sound : Sound (past_control o s w h)

  passed : pos 0 ≤ᶻ s → step.number ≡ 0 → Passed
  passed P e =
      let p = placer_at k a o in
      let c = cell_of k sp p (size_in k w h) in
      let A = widget-placed sp p (size_in k w h) c e in
      let d = edges-within placed (rw frame_is at A).frame in
      let X = few k (omega arith) (o.x +ℤ w) (omega (arith, sum o.x w)) d.right in
      let Y = few k (omega arith) (o.top +ℤ h) (omega (arith, sum o.top h)) d.bottom in
      let same : past_cell sp p c ≡ placer_at k a (past_control o s w h) = rw (frame_is, widget-is X Y) (past_is X Y) in
      let N = next-within X Y (rw same at A.after) in
      let wide = not_narrow k (omega arith) w h W A.size in
      record { right = X; bottom = Y; wide = wide; placer = A.placer ∙ same; sound = past-sound X Y P wide N }

-- ---- from a W or an E on: r is what the records after it give from the place q, after its own rectangles
pub record Goes (k : ℕ) (a : Align) (sp : Vec2) (n : ℕ) (q : Place) (own : List Cell) (after : List Step) (r : Ran) : Type 0 where
  pub accepted : (run_from k sp (n + 1) (placer_at k a q) after).number ≡ 0
  pub cells : r.cells ≡ own ++ (run_from k sp (n + 1) (placer_at k a q) after).cells

pub record ControlGoes (k : ℕ) (a : Align) (sp : Vec2) (s : ℤ) (n : ℕ) (o : Place) (w h : ℤ) (after : List Step) (r : Ran) : Type 0 where
  pub cell : Cell
  pub frame : cell.frame ≡ rect_in k o.x o.top (o.x +ℤ w) (o.top +ℤ h)
  pub right : Few (o.x +ℤ w)
  pub bottom : Few (o.top +ℤ h)
  pub wide : pos 0 ≤ᶻ w
  pub sound : Sound (past_control o s w h)
  pub goes : Goes k a sp n (past_control o s w h) (cell ∷ []) after r

module _ (k : ℕ) (a : Align) (sp : Vec2) (n : ℕ) (o : Place) (after : List Step) where
  goes_on : (q : Place) (t : Stepped) → t.placer ≡ placer_at k a q → (followed n t (run_from k sp (n + 1) t.placer after)).number ≡ 0
      → Goes k a sp n q t.cells after (followed n t (run_from k sp (n + 1) t.placer after))
  goes_on q t i e =
      let d = going n t (run_from k sp (n + 1) t.placer after) e in
      record { accepted = rw i at d.rest; cells = d.cells ∙ rw i }

  row-ended : (stepped k sp (placer_at k a o) RowEnd).number ≡ 0 → (stepped k sp (placer_at k a o) RowEnd).placer ≡ placer_at k a o
  unfolding stepped checked_end_row
  row-ended e =
      let p = placer_at k a o in
      (changed-accepted (least (placer_fault p ∷ pair_fault sp.x sp.y ∷ end_row_fault p ∷ [])) p (end_row p sp) e).2 ∙ (unfold end_row layout-rules.end_row in refl)

  pub row-end-goes : (run_from k sp n (placer_at k a o) (RowEnd ∷ after)).number ≡ 0 → Goes k a sp n o [] after (run_from k sp n (placer_at k a o) (RowEnd ∷ after))
  unfolding run_from stepped
  row-end-goes e =
      let t = stepped k sp (placer_at k a o) RowEnd in
      goes_on o t (row-ended (going n t (run_from k sp (n + 1) t.placer after) e).this) e

  module _ (l : k ≤ 6) (O : Sound o) (s : ℤ) (gap : sp.x ≡ val k s) (S : Few s) (some : pos 0 ≤ᶻ s) where
    in-steps : (w h : ℤ) → Few w → Few h → (run_from k sp n (placer_at k a o) (Widget (val k w) (val k h) ∷ after)).number ≡ 0
        → ControlGoes k a sp s n o w h after (run_from k sp n (placer_at k a o) (Widget (val k w) (val k h) ∷ after))
    unfolding run_from stepped widget_step
    in-steps w h W H e =
        let c = cell_of k sp (placer_at k a o) (size_in k w h) in
        let t = widget_step sp (placer_at k a o) (size_in k w h) c in
        let d = passed k l a o O sp s w h gap S W H some (going n t (run_from k sp (n + 1) t.placer after) e).this in
        record { cell = c; frame = frame_is k l a o O sp s w h gap S W H; right = d.right; bottom = d.bottom; wide = d.wide; sound = d.sound; goes = goes_on (past_control o s w h) t d.placer e }

    in-floats : (w h : Float) (x y : ℤ) → w ≡ val k x → h ≡ val k y → Few x → Few y → (run_from k sp n (placer_at k a o) (Widget w h ∷ after)).number ≡ 0
        → ControlGoes k a sp s n o x y after (run_from k sp n (placer_at k a o) (Widget w h ∷ after))
    in-floats w h x y i j X Y e = rw (i, j) (in-steps x y X Y (rw (i, j) at e))

    pub control-goes : {w h : Float} (W : Edge k w) (H : Edge k h) → (run_from k sp n (placer_at k a o) (Widget w h ∷ after)).number ≡ 0
        → ControlGoes k a sp s n o W.steps H.steps after (run_from k sp n (placer_at k a o) (Widget w h ∷ after))
    control-goes {w} {h} W H e = in-floats w h W.steps H.steps W.is H.is (edge-small k (omega arith) W) (edge-small k (omega arith) H) e
