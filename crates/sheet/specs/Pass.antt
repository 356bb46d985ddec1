-- RULES 6.12 to 6.20, 8.3, 8.18, 8.19: one pass over a sheet's records, by the placer's calls. Where a call rounds, the step is 1 / 2 ^ k
-- point.
use Rattle.std.specs.Prelude.{ℕ, ◌+◌, Bool, false, cond, List, [], ◌∷◌, ◌++◌, eqb}
use Rattle.emath.specs.Rectangles.{union}
use Rattle.emath.specs.Refusals.{least, or_else, pair_fault, size_fault, edges_fault, outside}
use Rattle.emath.specs.declared.Rect.{Rect}
use Rattle.emath.specs.declared.Vec2.{Vec2}
use Rattle.region.specs.Refusals.{zero_rect}
use Rattle.grid.specs.Operations.{checked_new as checked_new_grid}
use Rattle.grid.specs.declared.Memory.{Memory}
use Rattle.grid.specs.declared.GridAnswer.{GridAnswer}
use Rattle.grid.specs.declared.Saved.{Saved}
use Rattle.placer.specs.Rules.{save_grid, next_space, justify_and_align, advance_after_rects}
use Rattle.placer.specs.Refusals.{placer_fault, advance_fault}
use Rattle.placer.specs.Operations.{checked_new, checked_set_grid, checked_advance_cursor, checked_end_row, checked_set_row_height, checked_set_max_width, checked_set_max_height, checked_set_min_width, checked_set_min_height}
use Rattle.placer.specs.declared.Placer.{Placer}
use Rattle.placer.specs.declared.PlacerAnswer.{PlacerAnswer}
use Rattle.records.specs.declared.Heading.{Heading}
use Rattle.records.specs.declared.Step.{Step}
use Rattle.records.specs.declared.Step.TheVariants.{Widget, Space, RowHeight, MaxWidth, MaxHeight, MinWidth, MinHeight, RowEnd}

-- RULES 6.12: a sheet to which none of 1 to 3 applies: its heading, and the steps after it
pub record Sheet : Type 0 where
  pub heading : Heading
  pub steps : List Step

-- ---- RULES 6.15, 6.16: what a step gives
-- a W's rectangles
pub record Cell : Type 0 where
  pub frame : Rect
  pub widget : Rect

-- its number (0: none), the placer after it, and a W's rectangles
pub record Stepped : Type 0 where
  pub number : ℕ
  pub placer : Placer
  pub cells : List Cell

-- RULES 6.15: where a W goes, and the placer past it
abbrev pub cell_of : ℕ → Vec2 → Placer → Vec2 → Cell
cell_of k sp p s = record { frame = next_space k p s sp; widget = justify_and_align k p (next_space k p s sp) s }

abbrev pub past_cell : Vec2 → Placer → Cell → Placer
past_cell sp p c = advance_after_rects p c.frame c.widget sp

-- RULES 8.3, 8.18: one order for all three calls: 4 to 8 of what they are given, then 9 of the frame, the widget and the new placer
unfoldable pub widget_fault : Vec2 → Placer → Vec2 → Cell → ℕ
widget_fault sp p s c =
    or_else (least (placer_fault p ∷ size_fault s ∷ pair_fault sp.x sp.y ∷ advance_fault p ∷ []))
    (outside (least (edges_fault c.frame ∷ edges_fault c.widget ∷ placer_fault (past_cell sp p c) ∷ [])))

-- RULES 6.15: the new placer, or the given one where the W is refused
unfoldable pub widget_step : Vec2 → Placer → Vec2 → Cell → Stepped
widget_step sp p s c = record { number = widget_fault sp p s c; placer = cond (eqb (widget_fault sp p s c) 0) (past_cell sp p c) p; cells = c ∷ [] }

-- RULES 6.16: a step that is one call
abbrev pub called : PlacerAnswer → Stepped
called a = record { number = a.number; placer = a.placer; cells = [] }

-- RULES 6.15, 6.16: what each step runs: W its three calls, any other one call, whose number it has (RULES 8.18)
unfoldable pub stepped : ℕ → Vec2 → Placer → Step → Stepped
stepped k sp p (Widget w h) = widget_step sp p (record { x = w; y = h }) (cell_of k sp p (record { x = w; y = h }))
stepped k sp p (Space a) = called (checked_advance_cursor p a)
stepped k sp p RowEnd = called (checked_end_row p sp)
stepped k sp p (RowHeight h) = called (checked_set_row_height p h)
stepped k sp p (MaxWidth w) = called (checked_set_max_width k p w)
stepped k sp p (MaxHeight h) = called (checked_set_max_height k p h)
stepped k sp p (MinWidth w) = called (checked_set_min_width k p w)
stepped k sp p (MinHeight h) = called (checked_set_min_height k p h)

-- ---- RULES 6.17: the steps one after the other
-- how far a pass came: a refusal's number (0: none) and record, the rectangles of the W before the fault, and the placer
pub record Ran : Type 0 where
  pub number : ℕ
  pub at : ℕ
  pub cells : List Cell
  pub placer : Placer

-- record n, and the later ones where it is not refused
unfoldable pub followed : ℕ → Stepped → Ran → Ran
followed n a later =
    cond (eqb a.number 0)
    (record { number = later.number; at = later.at; cells = a.cells ++ later.cells; placer = later.placer })
    (record { number = a.number; at = n; cells = []; placer = a.placer })

-- the steps from record n on
unfoldable pub run_from : ℕ → Vec2 → ℕ → Placer → List Step → Ran
run_from k sp n p [] = record { number = 0; at = 0; cells = []; placer = p }
run_from k sp n p (st ∷ rest) = followed n (stepped k sp p st) (run_from k sp (n + 1) (stepped k sp p st).placer rest)

-- ---- the heading; its numbers are those of its calls (RULES 8.18)
-- RULES 6.13, H: Placer's `new`
unfoldable pub headed : ℕ → Heading → PlacerAnswer
headed k h = checked_new k h.max_rect h.layout

-- RULES 6.14, G: GridLayout's `new` with the memory of the pass, then `set_grid`
unfoldable pub grid_of : Heading → Bool → Memory → Bool → Placer → GridAnswer
grid_of h known m sizing p =
    checked_new_grid h.layout.main_dir p.region known m sizing h.spacing h.options.min_cell_size h.options.max_cell_size h.options.num_columns h.options.start_row

unfoldable pub grid_set : Heading → Bool → Memory → Bool → Placer → PlacerAnswer
grid_set h known m sizing p =
    record {
      number = or_else (grid_of h known m sizing p).number (checked_set_grid p (grid_of h known m sizing p).grid).number;
      placer = (checked_set_grid p (grid_of h known m sizing p).grid).placer;
    }

-- ---- the whole pass
-- RULES 6.19: a rectangle with the frames of some W; the plate is the first frame with all the others, and without a W it is all zero
unfoldable pub around : Rect → List Cell → Rect
around r [] = r
around r (c ∷ rest) = around (union r c.frame) rest

unfoldable pub plate_of : List Cell → Rect
plate_of [] = zero_rect
plate_of (c ∷ rest) = around c.frame rest

-- RULES 6.12: what a pass gives: a refusal's number and record (0 and 0: none), its W's rectangles, the plate, a memory, the save flag
pub record Outcome : Type 0 where
  pub number : ℕ
  pub at : ℕ
  pub cells : List Cell
  pub plate : Rect
  pub memory : Memory
  pub save : Bool

-- RULES 8.19: a refused pass has a plate of zeros and hands back the memory that it got, with the flag clear
abbrev pub refused_at : ℕ → ℕ → List Cell → Memory → Outcome
refused_at n at cells m = record { number = n; at = at; cells = cells; plate = zero_rect; memory = m; save = false }

-- RULES 6.20: the memory that the grid saves, or without a grid the given one
unfoldable pub remembered : Bool → Memory → Placer → Saved
remembered grid m p = cond grid (save_grid p) (record { memory = m; save = false })

-- RULES 6.20, 8.19: what a run comes to, accepted or refused
unfoldable pub outcome_of : Bool → Memory → Ran → Outcome
outcome_of grid m r =
    cond (eqb r.number 0)
    (record { number = 0; at = 0; cells = r.cells; plate = plate_of r.cells; memory = (remembered grid m r.placer).memory; save = (remembered grid m r.placer).save })
    (refused_at r.number r.at r.cells m)

-- RULES 6.17: record n of the heading gives the placer from which the pass goes on, or is refused
unfoldable pub begun : ℕ → PlacerAnswer → Ran → Ran
begun n a later = followed n (called a) later

-- RULES 6.17: the records after H: G, where there is one, and the steps
unfoldable pub ran_with : ℕ → Sheet → Bool → Memory → Bool → Placer → Ran
ran_with k s known m sizing p =
    cond s.heading.has_grid
    (begun s.heading.records (grid_set s.heading known m sizing p)
    (run_from k s.heading.spacing (s.heading.records + 1) (grid_set s.heading known m sizing p).placer s.steps))
    (run_from k s.heading.spacing (s.heading.records + 1) p s.steps)

-- RULES 6.12: a pass over a sheet, with a memory where it is known, sizing or not
unfoldable pub pass : ℕ → Sheet → Bool → Memory → Bool → Outcome
pass k s known m sizing =
    outcome_of s.heading.has_grid m (begun 1 (headed k s.heading) (ran_with k s known m sizing (headed k s.heading).placer))
