-- RULES 10.4 to 10.10: the price clause of the call that runs: `passing::pass` over texts, memories and slices, claim by claim. `Called` is
-- what the call promises: its answer p, and what the slice then holds.
use Rattle.std.specs.Prelude.{◌≡◌, Bool, true, false, List, ℕ, ◌+◌, ◌*◌, ◌<◌, ◌≤◌, ℤ, pos, nat_abs, length, get_or, Float}
use Rattle.emath.specs.Rectangles.{zero_f}
use Rattle.emath.specs.Steps.{tick, val, most}
use Rattle.emath.specs.declared.Rect.{Rect}
use Rattle.region.specs.Refusals.{zero_rect}
use Rattle.grid.specs.Memories.{col_width}
use Rattle.grid.specs.declared.Memory.{Memory}
use Rattle.sheet.specs.Slices.{Accepted}
use Rattle.sheet.specs.Slices.{Passed}
use Rattle.sheet.specs.Pass.{Cell}
use Rattle.sheet.specs.Ticks.{Ticks, in_ticks}
use Rattle.sheet.specs.Texts.{sheet_in}
use Rattle.sheet.specs.Slices.{Called, laid, controls}
use Rattle.price_clause.specs.Sheets.{GrownSheet, NoNegativeSpacing, Strip, FrameNoLess, PlateNoLess, AtFirstFrames, cell_at}
use Rattle.pass_laws.specs.Columns.{in_column, widest}
use Rattle.pass_laws.specs.Plates.{Holds}
use Rattle.pass_laws.specs.Tops.{TopsOnSteps, NoK}

-- ---- RULES 10.4: what a slice holds
abbrev pub place : List ℤ → ℕ → ℕ → ℤ
place out k i = get_or out (8 * k + i) (pos 0)

-- RULES 10.4: W number k's frame and widget, in places 8k to 8k + 7
abbrev pub frame_in : List ℤ → ℕ → Ticks
frame_in out k = record { left = place out k 0; top = place out k 1; right = place out k 2; bottom = place out k 3 }

abbrev pub widget_in : List ℤ → ℕ → Ticks
widget_in out k = record { left = place out k 4; top = place out k 5; right = place out k 6; bottom = place out k 7 }

-- ---- RULES 10.6: calls in turn over one slice
-- so many of them: `answers n` is what call n, from 0, answers, `slices n` what the slice holds before it and `slices (n + 1)` after it.
-- The first is sizing and without memory (m stands beside a flag that is clear, and can be any); each later one has the memory and the
-- slice that the one before left, and is not sizing.
pub record InTurn (text : List ℕ) (m : Memory) (count : ℕ) (answers : ℕ → Passed) (slices : ℕ → List ℤ) : Type 0 where
  pub first : 0 < count → Called text false m true (slices 0) (answers 0) (slices 1)
  pub later : (n : ℕ) → n + 1 < count → Called text true (answers n).memory false (slices (n + 1)) (answers (n + 1)) (slices (n + 2))

-- ---- what is claimed of them
-- RULES 10.4: frames by the number of their W, and plates, in ticks
pub record NoLessIn (count : ℕ) (p q : Passed) (out out' : List ℤ) : Type 0 where
  pub frames : (k : ℕ) → k < count → FrameNoLess (frame_in out k) (frame_in out' k)
  pub plate : PlateNoLess (in_ticks tick p.plate) (in_ticks tick q.plate)
  -- RULES 10.4: and more: the second plate holds the first, and with a W both have one left top corner, that of their first frames
  pub holds : Holds (in_ticks tick q.plate) (in_ticks tick p.plate)
  pub corner : 0 < count → AtFirstFrames (in_ticks tick p.plate) (frame_in out 0) (in_ticks tick q.plate) (frame_in out' 0)

-- RULES 6.19: t is the smallest rectangle around the frames of so many W: it holds each, and any other that does so holds it
pub record SmallestIn (count : ℕ) (t : Ticks) (out : List ℤ) : Type 0 where
  pub holds : (k : ℕ) → k < count → Holds t (frame_in out k)
  pub least : (other : Ticks) → ((k : ℕ) → k < count → Holds other (frame_in out k)) → Holds other t

-- RULES 10.8: call n is accepted, answers what the second one did (plate, memory and flag), and leaves the slice as the second one did
pub record SecondAgain (answers : ℕ → Passed) (slices : ℕ → List ℤ) (n : ℕ) : Type 0 where
  pub accepted : (answers n).laid ≡ Accepted
  pub answer : answers n ≡ answers 1
  pub slice : slices (n + 1) ≡ slices 2

-- RULES 10.10: an edge that is exactly so many ticks, of the domain; and all four
pub record IsTicks (x : Float) (z : ℤ) : Type 0 where
  pub is : x ≡ val tick z
  pub few : nat_abs z ≤ most tick

pub record RectIsTicks (r : Rect) (t : Ticks) : Type 0 where
  pub left : IsTicks r.left t.left
  pub top : IsTicks r.top t.top
  pub right : IsTicks r.right t.right
  pub bottom : IsTicks r.bottom t.bottom

-- RULES 10.10: W number k's rectangles in the pass, and the eight places that were written for them
pub record WrittenWhole (cells : List Cell) (out : List ℤ) (k : ℕ) : Type 0 where
  pub frame : RectIsTicks (cell_at cells k).frame (frame_in out k)
  pub widget : RectIsTicks (cell_at cells k).widget (widget_in out k)

-- RULES 10.5 to 10.10, claim by claim
pub record CallClause : Type 0 where
  -- RULES 10.5: two strips, alike but for larger controls in the second, a call on each: with any memory or none, sizing or not
  pub strips : (a b : List ℕ) → GrownSheet (sheet_in a) (sheet_in b) → Strip (sheet_in a) → NoNegativeSpacing (sheet_in a)
      → (known known' : Bool) (m m' : Memory) (sizing sizing' : Bool) (out out' exit exit' : List ℤ) (p q : Passed)
      → Called a known m sizing out p exit → Called b known' m' sizing' out' q exit' → p.laid ≡ Accepted → q.laid ≡ Accepted
      → NoLessIn (controls (sheet_in a).steps) p q exit exit'
  -- RULES 10.6: two grids so, two calls in turn on each, from the second ones
  pub grids : (a b : List ℕ) → GrownSheet (sheet_in a) (sheet_in b) → (sheet_in a).heading.has_grid ≡ true → NoNegativeSpacing (sheet_in a)
      → (m m' : Memory) (p q : ℕ → Passed) (out out' : ℕ → List ℤ) → InTurn a m 2 p out → InTurn b m' 2 q out'
      → (p 0).laid ≡ Accepted → (p 1).laid ≡ Accepted → (q 0).laid ≡ Accepted → (q 1).laid ≡ Accepted
      → NoLessIn (controls (sheet_in a).steps) (p 1) (q 1) (out 2) (out' 2)
  -- RULES 10.7: every accepted call on a grid, with any records, any memory or none, sizing or not: the memory given back has, for a column
  -- that holds cells, the width of its widest control, or the minimum where that is more
  pub columns : (text : List ℕ) → (sheet_in text).heading.has_grid ≡ true → (known : Bool) (m : Memory) (sizing : Bool) (out exit : List ℤ) (p : Passed)
      → Called text known m sizing out p exit → p.laid ≡ Accepted → (c : ℕ) → 0 < length (in_column c 0 (sheet_in text).steps)
      → (c < p.memory.cols) × (col_width p.memory c zero_f ≡ widest (sheet_in text).heading.options.min_cell_size.x (in_column c 0 (sheet_in text).steps))
  -- RULES 10.8: any number of calls in turn on a grid, the first two accepted: where the cursor's top is on a whole tick at each W of those
  -- two, every call after the second is the second again
  pub further : (text : List ℕ) → (sheet_in text).heading.has_grid ≡ true → (m : Memory) (count : ℕ) (p : ℕ → Passed) (out : ℕ → List ℤ)
      → InTurn text m count p out → (p 0).laid ≡ Accepted → (p 1).laid ≡ Accepted
      → TopsOnSteps tick (sheet_in text) false m true → TopsOnSteps tick (sheet_in text) true (p 0).memory false
      → (n : ℕ) → n + 2 < count → SecondAgain p out (n + 2)
  -- RULES 10.9: which it is in every accepted call where there is no K
  pub without-K : (text : List ℕ) → (sheet_in text).heading.has_grid ≡ true → NoK (sheet_in text).steps
      → (known : Bool) (m : Memory) (sizing : Bool) (out exit : List ℤ) (p : Passed) → Called text known m sizing out p exit → p.laid ≡ Accepted
      → TopsOnSteps tick (sheet_in text) known m sizing
  -- RULES 10.9: every call after the second is the second again, with K too
  pub all-further : (text : List ℕ) → (sheet_in text).heading.has_grid ≡ true → (m : Memory) (count : ℕ) (p : ℕ → Passed) (out : ℕ → List ℤ)
      → InTurn text m count p out → (p 0).laid ≡ Accepted → (p 1).laid ≡ Accepted → (n : ℕ) → n + 2 < count → SecondAgain p out (n + 2)
  -- RULES 6.19: the plate of an accepted call on a sheet with a W is the smallest rectangle around the frames in the slice; without a W it
  -- is all zero
  pub smallest : (text : List ℕ) (known : Bool) (m : Memory) (sizing : Bool) (out exit : List ℤ) (p : Passed) → Called text known m sizing out p exit → p.laid ≡ Accepted
      → 0 < controls (sheet_in text).steps → SmallestIn (controls (sheet_in text).steps) (in_ticks tick p.plate) exit
  pub without-W : (text : List ℕ) (known : Bool) (m : Memory) (sizing : Bool) (out exit : List ℤ) (p : Passed) → Called text known m sizing out p exit
      → controls (sheet_in text).steps ≡ 0 → p.plate ≡ zero_rect
  -- RULES 10.10: whole ticks, of every call, accepted or refused: each of the eight places of every W before a fault, or of all W, is
  -- exactly the edge of the pass, and the plate's edges are whole ticks
  pub whole : (text : List ℕ) (known : Bool) (m : Memory) (sizing : Bool) (out exit : List ℤ) (p : Passed) → Called text known m sizing out p exit
      → ((k : ℕ) → k < length (laid text known m sizing out).outcome.cells → WrittenWhole (laid text known m sizing out).outcome.cells exit k)
      × RectIsTicks p.plate (in_ticks tick p.plate)
