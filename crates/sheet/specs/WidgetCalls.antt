-- RULES 8.18: a W is its three public calls, each given what the one before answered. The step of rounding is 1 / 2 ^ k point.
use Rattle.std.specs.Prelude.{ℕ, ◌≡◌, cond, eqb, Result}
use Rattle.emath.specs.Refusals.{lesser, or_else, answer_number, answer_value}
use Rattle.emath.specs.declared.Vec2.{Vec2}
use Rattle.region.specs.Refusals.{zero_rect}
use Rattle.emath.specs.declared.Rect.{Rect}
use Rattle.placer.specs.Refusals.{advance_fault}
use Rattle.placer.specs.Operations.{checked_next_space, checked_justify_and_align, checked_advance_after_rects}
use Rattle.placer.specs.declared.Placer.{Placer}
use Rattle.placer.specs.declared.PlacerAnswer.{PlacerAnswer}
use Rattle.sheet.specs.Pass.{cell_of, widget_step}

-- ---- RULES 8.18: the calls
abbrev pub frame_call : ℕ → Vec2 → Placer → Vec2 → Result Rect ℕ
frame_call k sp p s = checked_next_space k p s sp

abbrev pub widget_call : ℕ → Vec2 → Placer → Vec2 → Result Rect ℕ
widget_call k sp p s = checked_justify_and_align k p (answer_value zero_rect (frame_call k sp p s)) s

abbrev pub advance_call : ℕ → Vec2 → Placer → Vec2 → PlacerAnswer
advance_call k sp p s = checked_advance_after_rects p (answer_value zero_rect (frame_call k sp p s)) (answer_value zero_rect (widget_call k sp p s)) sp

-- RULES 8.18: the number: the lesser of the first's and of the advance's own, 8; then the second's; then the third's
unfoldable pub calls_number : ℕ → Vec2 → Placer → Vec2 → ℕ
calls_number k sp p s =
    or_else (lesser (answer_number (frame_call k sp p s)) (advance_fault p))
    (or_else (answer_number (widget_call k sp p s)) (advance_call k sp p s).number)

-- RULES 8.18: that is the W's number; its placer is the third's, or the given one where it is refused; and its rectangles, where it is not,
-- are those of the first two
pub record IsItsCalls (k : ℕ) (sp : Vec2) (p : Placer) (s : Vec2) : Type 0 where
  pub number : (widget_step sp p s (cell_of k sp p s)).number ≡ calls_number k sp p s
  pub placer : (widget_step sp p s (cell_of k sp p s)).placer ≡ cond (eqb (calls_number k sp p s) 0) (advance_call k sp p s).placer p
  pub cell : calls_number k sp p s ≡ 0 → cell_of k sp p s ≡ record { frame = answer_value zero_rect (frame_call k sp p s); widget = answer_value zero_rect (widget_call k sp p s) }
