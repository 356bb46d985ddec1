-- The frames and widgets of the W before a fault, or of all, are upright, and each W is its three calls: in every pass of a sheet whose
-- max_rect is f32, as every text's is, with any records, any given memory, sizing or not. For every step. Assumes nothing.
use Prim.Native.Nat.{ℕ}
use mathlib.Core.Path.{◌≡◌, sym, subst}
use mathlib.Core.Bool.{Bool, true, false, cond}
use mathlib.Core.List.{List, [], ◌∷◌}
use lib.Dec.{eqb}
use lib.Ieee.{Float}
use Rattle.emath.specs.Binary32.{F32, RectF32}
use Rattle.emath.specs.Steps.{tick, Edge}
use Rattle.emath.proofs.Binary32.{zero-f32, val-f32, max-f32}
use Rattle.emath.proofs.Upright.{size-at-least-zero, upright-within}
use Rattle.emath.specs.Rectangles.{intersect}
use Rattle.emath.specs.declared.Vec2.{Vec2}
use Rattle.grid.specs.Grids.{new_grid, empty_grid}
use Rattle.grid.specs.Refusals.{grid_answer}
use Rattle.grid.specs.Operations.{checked_new as checked_new_grid}
use Rattle.grid.specs.declared.Memory.{Memory}
use Rattle.grid.specs.declared.GridLayout.{GridLayout}
use Rattle.placer.specs.Rules.{next_space, justify_and_align}
use Rattle.placer.specs.Refusals.{changed_placer, zero_placer}
use Rattle.placer.specs.Operations.{checked_new, checked_set_grid, checked_advance_cursor, checked_end_row, checked_set_row_height, checked_set_max_width, checked_set_max_height, checked_set_min_width, checked_set_min_height}
use Rattle.placer.proofs.UprightSpaces.{next-space-upright, next-space-f32, justify-and-align-upright}
use Rattle.placer.proofs.PlacersF32.{PlacerF32, new-f32, zero-placer-f32, answered-f32, advance-cursor-f32, set-row-height-f32, end-row-f32, set-max-width-f32, set-max-height-f32, set-min-width-f32, set-min-height-f32, advance-after-rects-f32, set-grid-f32}
use Rattle.placer.specs.declared.Placer.{Placer}
use Rattle.records.specs.declared.Heading.{Heading}
use Rattle.records.specs.declared.Step.{Step}
use Rattle.records.specs.declared.Step.TheVariants.{Widget, Space, RowHeight, MaxWidth, MaxHeight, MinWidth, MinHeight, RowEnd}
use Rattle.sheet.specs.Pass.{Sheet, cell_of, past_cell, widget_fault, widget_step, stepped, headed, grid_of, grid_set, pass}
use Rattle.sheet.specs.Texts.{sheet_in}
use Rattle.sheet.proofs.Runs.{widget-placed}
use Rattle.sheet.proofs.WidgetCalls.{is-its-calls}
use Rattle.pass_laws.specs.Upright.{UprightCell, UprightCells, ByCalls, AllByCalls, first_placer, PassByCalls}
use Rattle.pass_laws.proofs.CellRuns.{pass-each}
use Rattle.pass_laws.proofs.TextTicks.{text-whole}

-- ---- a record keeps f32 edges
module _ (k : ℕ) (sp : Vec2) (p : Placer) (f : PlacerF32 p) where
  widget-f32 : (s : Vec2) → PlacerF32 (widget_step sp p s (cell_of k sp p s)).placer
  unfolding widget_step
  widget-f32 s = go (eqb (widget_fault sp p s (cell_of k sp p s)) 0)
    where
      go : (b : Bool) → PlacerF32 (cond b (past_cell sp p (cell_of k sp p s)) p)
      go true = advance-after-rects-f32 p f (next_space k p s sp) _ sp (next-space-f32 k p s sp)
      go false = f

  stepped-f32 : (st : Step) → PlacerF32 (stepped k sp p st).placer
  unfolding stepped checked_advance_cursor checked_end_row checked_set_row_height checked_set_max_width checked_set_max_height checked_set_min_width checked_set_min_height changed_placer
  stepped-f32 (Widget w h) = widget-f32 (record { x = w; y = h })
  stepped-f32 (Space a) = answered-f32 _ p _ f (advance-cursor-f32 p f a)
  stepped-f32 RowEnd = answered-f32 _ p _ f (end-row-f32 p f sp)
  stepped-f32 (RowHeight h) = answered-f32 _ p _ f (set-row-height-f32 p f h)
  stepped-f32 (MaxWidth w) = answered-f32 _ p _ f (set-max-width-f32 p f k w)
  stepped-f32 (MaxHeight h) = answered-f32 _ p _ f (set-max-height-f32 p f k h)
  stepped-f32 (MinWidth w) = answered-f32 _ p _ f (set-min-width-f32 p f k w)
  stepped-f32 (MinHeight h) = answered-f32 _ p _ f (set-min-height-f32 p f k h)

  -- ---- and so a W that is accepted is upright, and any W is its calls
  widget-upright : (s : Vec2) → (widget_step sp p s (cell_of k sp p s)).number ≡ 0 → UprightCell (cell_of k sp p s)
  widget-upright s n =
      let a = widget-placed sp p s (cell_of k sp p s) n in
      let z = size-at-least-zero s a.size in
      let r = next_space k p s sp in
      record {
        frame = upright-within r (next-space-upright k p s sp f.region.outer f.region.cursor z) a.frame;
        widget = upright-within (justify_and_align k p r s) (justify-and-align-upright k p r s (next-space-f32 k p s sp) z) a.widget;
      }

  step-calls : (st : Step) → ByCalls k sp p st
  unfolding ByCalls
  step-calls (Widget w h) = is-its-calls k sp p (record { x = w; y = h }) f.region.outer f.region.cursor
  step-calls (Space a) = tt
  step-calls RowEnd = tt
  step-calls (RowHeight h) = tt
  step-calls (MaxWidth w) = tt
  step-calls (MaxHeight h) = tt
  step-calls (MinWidth w) = tt
  step-calls (MinHeight h) = tt

-- ---- the steps one after the other
run-calls : (k : ℕ) (sp : Vec2) (p : Placer) (steps : List Step) → PlacerF32 p → AllByCalls k sp p steps
unfolding AllByCalls
run-calls k sp p [] f = tt
run-calls k sp p (st ∷ rest) f = (step-calls k sp p f st, run-calls k sp (stepped k sp p st).placer rest (stepped-f32 k sp p f st))

-- ---- the heading
headed-f32 : (k : ℕ) (h : Heading) → RectF32 h.max_rect → PlacerF32 (headed k h).placer
unfolding headed checked_new changed_placer
headed-f32 k h f = answered-f32 _ (zero_placer h.layout) _ (zero-placer-f32 h.layout) (new-f32 k h.max_rect h.layout f)

start-f32 : (n : ℕ) (new : GridLayout) → F32 new.initial_available.left → F32 (grid_answer n empty_grid new).grid.initial_available.left
unfolding grid_answer
start-f32 n new f = go (eqb n 0)
  where
    go : (b : Bool) → F32 (cond b new empty_grid).initial_available.left
    go true = f
    go false = zero-f32

grid-start-f32 : (h : Heading) (known : Bool) (m : Memory) (sizing : Bool) (p : Placer) → PlacerF32 p → F32 (grid_of h known m sizing p).grid.initial_available.left
unfolding grid_of checked_new_grid new_grid intersect
grid-start-f32 h known m sizing p f = start-f32 _ _ (max-f32 f.region.outer.left f.region.cursor.left)

grid-set-f32 : (h : Heading) (known : Bool) (m : Memory) (sizing : Bool) (p : Placer) → PlacerF32 p → PlacerF32 (grid_set h known m sizing p).placer
unfolding grid_set checked_set_grid changed_placer
grid-set-f32 h known m sizing p f = answered-f32 _ p _ f (set-grid-f32 p f _ (grid-start-f32 h known m sizing p f))

-- ---- a pass
module _ (k : ℕ) (s : Sheet) (known : Bool) (m : Memory) (sizing : Bool) (f : RectF32 s.heading.max_rect) where
  first : PlacerF32 (headed k s.heading).placer
  first = headed-f32 k s.heading f

  gridded : PlacerF32 (grid_set s.heading known m sizing (headed k s.heading).placer).placer
  gridded = grid-set-f32 s.heading known m sizing (headed k s.heading).placer first

  pub pass-upright : UprightCells (pass k s known m sizing).cells
  pass-upright =
      pass-each k s known m sizing UprightCell PlacerF32
      (λ (p : Placer) (z : Vec2) (i : PlacerF32 p). widget-upright k s.heading.spacing p i z) (λ (p : Placer) (st : Step) (i : PlacerF32 p). stepped-f32 k s.heading.spacing p i st)
      first gridded

  pub pass-calls : PassByCalls k s known m sizing
  pass-calls = run-calls k s.heading.spacing (first_placer k s known m sizing) s.steps (go s.heading.has_grid)
    where
      go : (b : Bool) → PlacerF32 (cond b (grid_set s.heading known m sizing (headed k s.heading).placer).placer (headed k s.heading).placer)
      go true = gridded
      go false = first

-- ---- a text's sheet: its lengths are whole ticks
edge-f32 : {k : ℕ} {x : Float} → Edge k x → F32 x
edge-f32 {k} e = subst F32 (sym e.is) (val-f32 k e.steps)

text-f32 : (text : List ℕ) → RectF32 (sheet_in text).heading.max_rect
text-f32 text = let w = (text-whole text).rect in record { left = edge-f32 w.left; top = edge-f32 w.top; right = edge-f32 w.right; bottom = edge-f32 w.bottom }

pub text-upright : (text : List ℕ) (known : Bool) (m : Memory) (sizing : Bool) → UprightCells (pass tick (sheet_in text) known m sizing).cells
text-upright text known m sizing = pass-upright tick (sheet_in text) known m sizing (text-f32 text)

pub text-calls : (text : List ℕ) (known : Bool) (m : Memory) (sizing : Bool) → PassByCalls tick (sheet_in text) known m sizing
text-calls text known m sizing = pass-calls tick (sheet_in text) known m sizing (text-f32 text)
