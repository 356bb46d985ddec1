-- RULES 10.3 to 10.10: the price clause, claim by claim, of the rule of a pass (Pass.antt). It is one statement for two kinds of sheets:
-- those that are read from a text, in ticks; and, for any step of 1 / 2 ^ k point, those whose lengths are whole steps.
use Rattle.std.specs.Prelude.{◌≡◌, Bool, true, false, ℕ, ◌+◌, ◌<◌, length}
use mathlib.Core.List.{List, Forall₂}
use Rattle.emath.specs.Rectangles.{zero_f}
use Rattle.region.specs.Refusals.{zero_rect}
use Rattle.region.specs.Steps.{WholeRect}
use Rattle.grid.specs.Memories.{col_width}
use Rattle.grid.specs.declared.Memory.{Memory}
use Rattle.sheet.specs.Pass.{Sheet, Outcome, pass}
use Rattle.sheet.specs.Passes.{passes}
use Rattle.sheet.specs.Slices.{controls}
use Rattle.price_clause.specs.Sheets.{GrownSheet, NoNegativeSpacing, Strip, CellNoLess, PlateNoLess, AtFirstFrames, first_frame}
use Rattle.sheet.specs.Ticks.{in_ticks}
use Rattle.pass_laws.specs.WholeCells.{WholeCells}
use Rattle.pass_laws.specs.Plates.{Holds, Smallest}
use Rattle.pass_laws.specs.Columns.{in_column, widest}
use Rattle.pass_laws.specs.Tops.{TopsOnSteps, NoK}
use Rattle.sheet.specs.Texts.{sheet_in}

-- RULES 10.3: no number of a refusal, the first of which is 1
abbrev pub Accepted : Outcome → Type 0
Accepted o = o.number ≡ 0

-- RULES 10.4: what the clause concludes of two passes, in ticks: each frame beside the one of the same W, and the plates
pub record NoLess (k : ℕ) (a b : Outcome) : Type 0 where
  pub frames : Forall₂ (CellNoLess k) a.cells b.cells
  pub plate : PlateNoLess (in_ticks k a.plate) (in_ticks k b.plate)
  -- RULES 10.4: and more: the second plate holds the first, and with a W both have one left top corner, that of their first frames
  pub holds : Holds (in_ticks k b.plate) (in_ticks k a.plate)
  pub corner : 0 < length a.cells → AtFirstFrames (in_ticks k a.plate) (first_frame k a.cells) (in_ticks k b.plate) (first_frame k b.cells)

-- RULES 10.3: a sheet that was read from a text
pub record OfText (s : Sheet) : Type 0 where
  pub text : List ℕ
  pub is : s ≡ sheet_in text

-- RULES 10.5 to 10.10: `Is` says which sheets are meant. A memory m that goes with `passes` stands beside a flag that is clear, and can be
-- any.
pub record PriceClause (k : ℕ) (Is : Sheet → Type 0) : Type 0 where
  -- RULES 10.5: two strips, the second with controls that are larger or the same, and nothing else changed; a memory means nothing to them
  pub strips : (a b : Sheet) → Is a → Is b → GrownSheet a b → Strip a → NoNegativeSpacing a
      → (known known' : Bool) (m m' : Memory) (sizing sizing' : Bool) → Accepted (pass k a known m sizing) → Accepted (pass k b known' m' sizing')
      → NoLess k (pass k a known m sizing) (pass k b known' m' sizing')
  -- RULES 10.6: two grids, from their second passes
  pub grids : (a b : Sheet) → Is a → Is b → GrownSheet a b → a.heading.has_grid ≡ true → NoNegativeSpacing a → (m m' : Memory)
      → Accepted (passes k a m 0) → Accepted (passes k a m 1) → Accepted (passes k b m' 0) → Accepted (passes k b m' 1)
      → NoLess k (passes k a m 1) (passes k b m' 1)
  -- RULES 10.7: every accepted pass of a grid, with any records, any memory or none, sizing or not: the memory has, for a column that holds
  -- cells, the width of its widest control, or the minimum where that is more
  pub columns : (s : Sheet) → Is s → s.heading.has_grid ≡ true → (known : Bool) (m : Memory) (sizing : Bool) → Accepted (pass k s known m sizing)
      → (c : ℕ) → 0 < length (in_column c 0 s.steps)
      → (c < (pass k s known m sizing).memory.cols) × (col_width (pass k s known m sizing).memory c zero_f ≡ widest s.heading.options.min_cell_size.x (in_column c 0 s.steps))
  -- RULES 10.8: where the cursor's top is on a whole step at each W of the first two passes, every pass after the second is the second
  -- again
  pub further : (s : Sheet) → Is s → s.heading.has_grid ≡ true → (m : Memory) → Accepted (passes k s m 0) → Accepted (passes k s m 1)
      → TopsOnSteps k s false m true → TopsOnSteps k s true (passes k s m 0).memory false → (n : ℕ) → passes k s m (n + 2) ≡ passes k s m 1
  -- RULES 10.9: which it is where there is no K
  pub without-K : (s : Sheet) → Is s → s.heading.has_grid ≡ true → NoK s.steps → (known : Bool) (m : Memory) (sizing : Bool)
      → Accepted (pass k s known m sizing) → TopsOnSteps k s known m sizing
  -- RULES 10.9: it is so with K too, and the passes after the second need no such condition
  pub always : (s : Sheet) → Is s → s.heading.has_grid ≡ true → (known : Bool) (m : Memory) (sizing : Bool) → Accepted (pass k s known m sizing)
      → TopsOnSteps k s known m sizing
  pub all-further : (s : Sheet) → Is s → s.heading.has_grid ≡ true → (m : Memory) → Accepted (passes k s m 0) → Accepted (passes k s m 1)
      → (n : ℕ) → passes k s m (n + 2) ≡ passes k s m 1
  -- RULES 6.19: the plate of an accepted pass with a W is the smallest rectangle around its frames; of a sheet without a W it is all zero
  pub smallest : (s : Sheet) → Is s → (known : Bool) (m : Memory) (sizing : Bool) → Accepted (pass k s known m sizing) → 0 < controls s.steps
      → Smallest k (in_ticks k (pass k s known m sizing).plate) (pass k s known m sizing).cells
  pub without-W : (s : Sheet) → Is s → (known : Bool) (m : Memory) (sizing : Bool) → controls s.steps ≡ 0 → (pass k s known m sizing).plate ≡ zero_rect
  -- RULES 10.10: whole steps: the frame and the widget of every W before a fault, or of all, and the plate
  pub whole : (s : Sheet) → Is s → (known : Bool) (m : Memory) (sizing : Bool)
      → WholeCells k (pass k s known m sizing).cells × WholeRect k (pass k s known m sizing).plate
