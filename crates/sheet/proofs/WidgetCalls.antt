-- RULES 8.18: a W is its three public calls. A frame that is accepted is not inside out, nor is its widget, so the call that is given one
-- asks no more of it than was asked before. Assumes nothing.
use Prim.Native.Nat.{ℕ}
use mathlib.Core.Path.{◌≡◌, refl, sym, ap, ◌∙◌}
use mathlib.Core.Logic.{◌⊎◌, inl, inr}
use mathlib.Core.Bool.{Bool, true, false, cond, ◌&&◌}
use mathlib.Core.List.{[], ◌∷◌}
use lib.Dec.{T, eqb, leb}
use borrow.Author.Tests.{eqb-true}
use Rattle.emath.specs.Domain.{at_least_zero}
use Rattle.emath.specs.Binary32.{RectF32}
use Rattle.emath.specs.Refusals.{when, lesser, least, or_else, pair_fault, size_fault, edges_fault, rect_fault, outside, answer_number, answer_value, or_zeros}
use Rattle.emath.proofs.Refusals.{lesser-none, lesser-some, lesser-assoc, or-none, or_some, outside-some}
use Rattle.emath.proofs.Upright.{size-at-least-zero}
use Rattle.emath.specs.declared.Rect.{Rect}
use Rattle.emath.specs.declared.Vec2.{Vec2}
use Rattle.region.specs.Refusals.{zero_rect}
use Rattle.region.specs.Operations.{placed_number}
use Rattle.emath.proofs.Refusals.{answer-number, answer-value}
use Rattle.placer.specs.Rules.{next_space, justify_and_align, advance_after_rects}
use Rattle.placer.specs.Refusals.{placer_fault, advance_fault, placer_answer, changed_placer}
use Rattle.placer.specs.Operations.{checked_next_space, next_space_number, checked_justify_and_align, justify_and_align_number, checked_advance_after_rects}
use Rattle.placer.proofs.Answers.{changed-accepted}
use Rattle.placer.proofs.UprightSpaces.{next-space-upright, next-space-f32, justify-and-align-upright}
use Rattle.placer.specs.declared.Placer.{Placer}
use Rattle.sheet.specs.Pass.{cell_of, past_cell, widget_fault, widget_step}
use Rattle.sheet.specs.WidgetCalls.{frame_call, widget_call, advance_call, calls_number, IsItsCalls}

-- ---- numbers
-- 0, or 8
advance-is : (p : Placer) → (advance_fault p ≡ 0) ⊎ (advance_fault p ≡ 8)
unfolding advance_fault least lesser
advance-is p = go (p.has_grid && leb 32 p.grid.col) (p.has_grid && leb 128 p.grid.row)
  where
    go : (a b : Bool) → (lesser (when a 8) (when b 8) ≡ 0) ⊎ (lesser (when a 8) (when b 8) ≡ 8)
    go true true = inr refl
    go true false = inr refl
    go false true = inr refl
    go false false = inl refl

-- ---- the calls' answers
module _ (k : ℕ) (sp : Vec2) (p : Placer) (s : Vec2) where
  abbrev f : Rect
  f = next_space k p s sp

  abbrev w : Rect
  w = justify_and_align k p f s

  -- what the three are given but for each other's answers, the place in the grid aside
  abbrev given : ℕ
  given = least (placer_fault p ∷ size_fault s ∷ pair_fault sp.x sp.y ∷ [])

  frame-number : answer_number (frame_call k sp p s) ≡ placed_number given f
  unfolding checked_next_space next_space_number
  frame-number = answer-number (placed_number given f) f

  frame-value : placed_number given f ≡ 0 → answer_value zero_rect (frame_call k sp p s) ≡ f
  unfolding checked_next_space next_space_number or_zeros
  frame-value h = answer-value zero_rect (placed_number given f) f ∙ rw h

  widget-number : answer_value zero_rect (frame_call k sp p s) ≡ f → answer_number (widget_call k sp p s) ≡ justify_and_align_number k p f s
  unfolding checked_justify_and_align
  widget-number h = rw h (answer-number (justify_and_align_number k p f s) w)

  widget-value : answer_value zero_rect (frame_call k sp p s) ≡ f → answer_number (widget_call k sp p s) ≡ 0 → answer_value zero_rect (widget_call k sp p s) ≡ w
  unfolding checked_justify_and_align or_zeros
  widget-value h n =
      let z : justify_and_align_number k p f s ≡ 0 = sym (widget-number h) ∙ n in
      rw h (answer-value zero_rect (justify_and_align_number k p f s) w ∙ rw z)

  -- ---- where none of them is refused, they answer the W's rectangles and the placer past it
  record Answered : Type 0 where
    pub frame : answer_value zero_rect (frame_call k sp p s) ≡ f
    pub widget : answer_value zero_rect (widget_call k sp p s) ≡ w
    pub placer : (advance_call k sp p s).placer ≡ past_cell sp p (cell_of k sp p s)

  answered : calls_number k sp p s ≡ 0 → Answered
  unfolding calls_number
  answered h =
      let a = or-none (lesser (answer_number (frame_call k sp p s)) _) _ h in
      let b = or-none (answer_number (widget_call k sp p s)) (advance_call k sp p s).number a.1 in
      let ef = frame-value (sym frame-number ∙ (lesser-none (answer_number (frame_call k sp p s)) _ a.0).0) in
      let ew = widget-value ef b.0 in
      let q : (advance_call k sp p s).placer ≡ advance_after_rects p (answer_value zero_rect (frame_call k sp p s)) (answer_value zero_rect (widget_call k sp p s)) sp = unfold checked_advance_after_rects in (changed-accepted _ p _ b.1).2 in
      record { frame = ef; widget = ew; placer = q ∙ rw (ew, ef) }

  -- ---- the number
  module _ (m : RectF32 p.region.max_rect) (c : RectF32 p.region.cursor) where
    abbrev past : ℕ
    past = placer_fault (past_cell sp p (cell_of k sp p s))

    fault-is : widget_fault sp p s (cell_of k sp p s) ≡ or_else (lesser given (advance_fault p)) (outside (lesser (edges_fault f) (lesser (edges_fault w) past)))
    unfolding widget_fault least
    fault-is =
        ap (λ (n : ℕ). or_else n (outside (lesser (edges_fault f) (lesser (edges_fault w) past))))
        (ap (lesser (placer_fault p)) (lesser-assoc (size_fault s) (pair_fault sp.x sp.y) (advance_fault p)) ∙ lesser-assoc (placer_fault p) (lesser (size_fault s) (pair_fault sp.x sp.y)) (advance_fault p))

    -- an accepted frame: the calls after it ask nothing that was not asked before
    module _ (z : given ≡ 0) (ef : edges_fault f ≡ 0) where
      none : (placer_fault p ≡ 0) × (size_fault s ≡ 0) × (pair_fault sp.x sp.y ≡ 0)
      unfolding least
      none =
          let a = lesser-none (placer_fault p) (lesser (size_fault s) (pair_fault sp.x sp.y)) z in
          let b = lesser-none (size_fault s) (pair_fault sp.x sp.y) a.1 in
          (a.0, b.0, b.1)

      size : T (at_least_zero s)
      size = size-at-least-zero s none.1

      frame_is : answer_value zero_rect (frame_call k sp p s) ≡ f
      frame_is = frame-value (unfold placed_number or_else outside in rw (z, ef))

      frame-fault : rect_fault f ≡ 0
      unfolding rect_fault least lesser
      frame-fault = rw (ef, next-space-upright k p s sp m c size)

      widget-is : answer_number (widget_call k sp p s) ≡ outside (edges_fault w)
      widget-is = widget-number frame_is ∙ (unfold justify_and_align_number placed_number least lesser or_else in rw (none.0, frame-fault, none.1))

      advance-number : advance_fault p ≡ 0 → edges_fault w ≡ 0 → (advance_call k sp p s).number ≡ outside past
      unfolding checked_advance_after_rects changed_placer placer_answer least lesser or_else
      advance-number d ew =
          let v = widget-value frame_is (widget-is ∙ (unfold outside in rw ew)) in
          let wf : rect_fault w ≡ 0 = unfold rect_fault least lesser in rw (ew, justify-and-align-upright k p f s (next-space-f32 k p s sp) size) in
          rw (v, frame_is, none.0, frame-fault, wf, none.2, d)

      rest-is : advance_fault p ≡ 0 → outside (lesser (edges_fault w) past) ≡ or_else (answer_number (widget_call k sp p s)) (advance_call k sp p s).number
      rest-is d = go (eqb (edges_fault w) 0) refl
        where
          go : (b : Bool) → eqb (edges_fault w) 0 ≡ b → outside (lesser (edges_fault w) past) ≡ or_else (answer_number (widget_call k sp p s)) (advance_call k sp p s).number
          go true e = let ew = eqb-true (edges_fault w) 0 e in rw (widget-is, advance-number d ew, ew) (unfold lesser or_else outside in refl)
          go false e = rw (widget-is, outside-some (edges_fault w) e, outside-some (lesser (edges_fault w) past) (lesser-some (edges_fault w) past e)) (unfold or_else in refl)

    -- ---- whatever the frame is
    number_is : or_else (lesser given (advance_fault p)) (outside (lesser (edges_fault f) (lesser (edges_fault w) past))) ≡ calls_number k sp p s
    unfolding calls_number placed_number
    number_is = rw frame-number (go (eqb given 0) (eqb (edges_fault f) 0) (advance-is p) refl refl)
      where
        later : ℕ
        later = or_else (answer_number (widget_call k sp p s)) (advance_call k sp p s).number

        goal : Type 0
        goal = or_else (lesser given (advance_fault p)) (outside (lesser (edges_fault f) (lesser (edges_fault w) past))) ≡ or_else (lesser (placed_number given f) (advance_fault p)) later

        go : (a b : Bool) → (advance_fault p ≡ 0) ⊎ (advance_fault p ≡ 8) → eqb given 0 ≡ a → eqb (edges_fault f) 0 ≡ b → goal
        go false b d ea eb = let e = lesser-some given (advance_fault p) ea in rw (or_some given (outside (edges_fault f)) ea) (or_some (lesser given (advance_fault p)) _ e ∙ sym (or_some (lesser given (advance_fault p)) later e))
        go true false (inl d) ea eb = rw (d, eqb-true given 0 ea, outside-some (edges_fault f) eb, outside-some (lesser (edges_fault f) (lesser (edges_fault w) past)) (lesser-some (edges_fault f) _ eb)) (unfold lesser or_else in refl)
        go true false (inr d) ea eb = rw (d, eqb-true given 0 ea, outside-some (edges_fault f) eb, outside-some (lesser (edges_fault f) (lesser (edges_fault w) past)) (lesser-some (edges_fault f) _ eb)) (unfold lesser or_else in refl)
        go true true (inl d) ea eb =
            let z = eqb-true given 0 ea in
            let ef = eqb-true (edges_fault f) 0 eb in
            rw (← rest-is z ef d, d, z, ef) (unfold lesser or_else outside in refl)
        go true true (inr d) ea eb = rw (d, eqb-true given 0 ea, eqb-true (edges_fault f) 0 eb) (unfold lesser or_else outside in refl)

    pub is-its-calls : IsItsCalls k sp p s
    unfolding widget_step
    is-its-calls =
        let n = fault-is ∙ number_is in
        record {
          number = n;
          placer = rw n (pick (eqb (calls_number k sp p s) 0) (λ (e : eqb (calls_number k sp p s) 0 ≡ true). sym (answered (eqb-true (calls_number k sp p s) 0 e)).placer));
          cell = λ (h : calls_number k sp p s ≡ 0). rw ((answered h).widget, (answered h).frame);
        }
      where
        pick : (b : Bool) → (b ≡ true → past_cell sp p (cell_of k sp p s) ≡ (advance_call k sp p s).placer) → cond b (past_cell sp p (cell_of k sp p s)) p ≡ cond b (advance_call k sp p s).placer p
        pick true h = h refl
        pick false h = refl
