-- For the contracts of src/steps.rt: what the code answers for one record, as Pass.antt has it, the step being a tick.
use Rattle.std.specs.Prelude.{ℕ, ◌≡◌, List, [], ◌∷◌, length, Float, Option, None, Some, Result, Ok, Err}
use Rattle.emath.specs.Numbers as number
use Rattle.emath.specs.Steps.{tick}
use Rattle.emath.specs.Refusals.{least, size_fault, pair_fault, edges_fault, outside, number_of}
use Rattle.emath.specs.declared.Rect.{Rect}
use Rattle.emath.specs.declared.Vec2.{Vec2}
use Rattle.region.specs.Refusals.{zero_rect}
use Rattle.placer.specs.Refusals.{placer_fault, advance_fault}
use Rattle.placer.specs.Operations.{checked_advance_cursor, checked_end_row, checked_set_row_height, checked_set_max_width, checked_set_max_height, checked_set_min_width, checked_set_min_height}
use Rattle.placer.specs.Implementation.Lent.{placer_of}
use Rattle.placer.specs.declared.Placer.{Placer}
use Rattle.placer.specs.declared.PlacerAnswer.{PlacerAnswer}
use Rattle.placer.specs.declared.PlacerSettings.{PlacerSettings}
use Rattle.placer.specs.declared.PassState.{PassState}
use Rattle.records.specs.declared.Step.{Step}
use Rattle.records.specs.declared.Step.TheVariants.{Widget, Space, RowHeight, MaxWidth, MaxHeight, MinWidth, MinHeight, RowEnd}
use Rattle.records.specs.Records.{Record}
use Rattle.emath.specs.declared.Refusal.{Refusal}
use Rattle.sheet.specs.declared.Cell.{Cell as Placed}
use Rattle.sheet.specs.declared.Stepped.{Stepped}
use Rattle.sheet.specs.Pass.{cell_of, widget_step}

-- what a record gives: its number (0: none), the placer after it; how many W it is, 1 or 0, and a W's rectangles
pub record CallResult : Type 0 where
  pub number : ℕ
  pub placer : Placer
  pub placed : ℕ
  pub frame : Rect
  pub widget : Rect

-- how many W a cell is, and its rectangles
abbrev pub placed_of : Option Placed → ℕ
placed_of None = 0
placed_of (Some c) = 1

abbrev pub frame_of : Option Placed → Rect
frame_of None = zero_rect
frame_of (Some c) = c.frame

abbrev pub widget_of : Option Placed → Rect
widget_of None = zero_rect
widget_of (Some c) = c.widget

-- the code's answer is this, its placer with the arrays that are lent; of a refusal the number, and the placer that was given
abbrev pub Gives : PlacerSettings → PassState → Result Stepped Refusal → List Float → List Float → List Float → List Float → CallResult → Type 0
Gives p s (Ok m) pw ph ws hs c = c ≡ record { number = 0; placer = placer_of p m.state pw ph ws hs; placed = placed_of m.cell; frame = frame_of m.cell; widget = widget_of m.cell }
Gives p s (Err e) pw ph ws hs c = (c.number ≡ number_of e) × (c.placer ≡ placer_of p s pw ph ws hs)

-- a placer without a fault, and arrays that are as long as a memory's
pub record Ready (p : PlacerSettings) (s : PassState) (pw ph ws hs : List Float) : Type 0 where
  pub none : placer_fault (placer_of p s pw ph ws hs) ≡ 0
  pub cols : length ws ≡ 32
  pub rows : length hs ≡ 128

-- where the placer has no fault: 4 to 8 of what a W's calls are given; 9 of what they answer, `past` being the new placer's number
unfoldable pub given_number : Placer → Vec2 → Vec2 → ℕ
given_number p sp s = least (size_fault s ∷ pair_fault sp.x sp.y ∷ advance_fault p ∷ [])

unfoldable pub answered_number : Rect → Rect → ℕ → ℕ
answered_number f w past = outside (least (edges_fault f ∷ edges_fault w ∷ past ∷ []))

-- a W, and a record that is one call
unfoldable pub placement : Placer → Vec2 → Vec2 → CallResult
placement p sp s = record {
  number = (widget_step sp p s (cell_of tick sp p s)).number;
  placer = (widget_step sp p s (cell_of tick sp p s)).placer;
  placed = 1;
  frame = (cell_of tick sp p s).frame;
  widget = (cell_of tick sp p s).widget;
}

abbrev pub called_by : PlacerAnswer → CallResult
called_by a = record { number = a.number; placer = a.placer; placed = 0; frame = zero_rect; widget = zero_rect }

unfoldable pub step_result : Placer → Vec2 → Step → CallResult
step_result p sp (Widget w h) = placement p sp (record { x = w; y = h })
step_result p sp (Space a) = called_by (checked_advance_cursor p a)
step_result p sp (RowHeight h) = called_by (checked_set_row_height p h)
step_result p sp (MaxWidth w) = called_by (checked_set_max_width tick p w)
step_result p sp (MaxHeight h) = called_by (checked_set_max_height tick p h)
step_result p sp (MinWidth w) = called_by (checked_set_min_width tick p w)
step_result p sp (MinHeight h) = called_by (checked_set_min_height tick p h)
step_result p sp RowEnd = called_by (checked_end_row p sp)

-- what is no step is malformed; after the check there is none
unfoldable pub record_result : Placer → Vec2 → Record → CallResult
record_result p sp (Some st) = step_result p sp st
record_result p sp None = called_by (record { number = number.malformed; placer = p })
