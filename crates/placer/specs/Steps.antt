-- RULES 4.19: whole steps of 1 / 2 ^ k point, the words of the laws in proofs/, for every k.
use Rattle.std.specs.Prelude.{ℕ}
use Rattle.emath.specs.Steps.{Edge}
use Rattle.region.specs.Steps.{WholeRect, WholeRegion}
use Rattle.grid.specs.Memories.{row_height}
use Rattle.grid.specs.Grids.{prev_col_width}
use Rattle.grid.specs.declared.GridLayout.{GridLayout}
use Rattle.placer.specs.declared.Placer.{Placer}

-- RULES 4.19: a placer whose region is in whole steps, but for an open edge at infinity
abbrev pub WholePlacer : ℕ → Placer → Type 0
WholePlacer k p = WholeRegion k p.layout.main_dir p.region

-- RULES 4.19: what a grid adds to the cursor: the widths it remembers, its spacing and where its rows start
pub record WholeAcross (k : ℕ) (g : GridLayout) : Type 0 where
  pub widths : (col : ℕ) → Edge k (prev_col_width g col)
  pub gap : Edge k g.spacing.x
  pub start : Edge k g.initial_available.left

-- RULES 4.19: and downward: the heights of this pass
pub record WholeDown (k : ℕ) (g : GridLayout) : Type 0 where
  pub heights : (row : ℕ) → Edge k (row_height g.curr_state row g.min_cell_size.y)
  pub gap : Edge k g.spacing.y

-- RULES 4.19: what stays in whole steps even where a grid was given a memory that is not: min_rect, max_rect and the cursor's top
pub record WholeTops (k : ℕ) (p : Placer) : Type 0 where
  pub inner : WholeRect k p.region.min_rect
  pub outer : WholeRect k p.region.max_rect
  pub top : Edge k p.region.cursor.top
