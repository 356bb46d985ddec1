-- RULES 7.10: what it is for a list to hold a pass's numbers where the drawing reads them. The drawing itself is templates filled with such
-- fields (drawing's Pieces.antt, `filled`).
use Rattle.std.specs.Prelude.{ℕ, ◌+◌, ◌*◌, ◌<◌, ◌≡◌, Bool, cond, List, ◌∷◌, ◌++◌, pos, length, get_or}
use Rattle.text.specs.Letters as letters
use Rattle.emath.specs.Steps.{tick}
use Rattle.grid.specs.Memories.{widths, heights}
use Rattle.sheet.specs.Pass.{Cell, Outcome}
use Rattle.sheet.specs.Ticks.{in_ticks}
use Rattle.sheet.specs.Slices.{edges, eight}
use Rattle.drawing.specs.Pieces.{field_of}
use Rattle.drawing.specs.Pages.{lines_from, columns_of, rows_of}

-- RULES 7.10: there are as many W lines as the pass has cells; fields 1 to 8 of line k are the edges of cell k, its frame's and its
-- widget's, and the plate's fields the plate's edges, all in ticks; and a grid has as many columns and rows as it remembers
pub record Shows (grid : Bool) (s : List ℕ) (o : Outcome) : Type 0 where
  pub controls : lines_from 512 letters.W 74 s 0 ≡ length o.cells
  pub cells : (before after : List Cell) (c : Cell) → o.cells ≡ before ++ (c ∷ after) → (i : ℕ) → i < 8 → field_of s (74 * length before) (1 + i) ≡ get_or (eight c) i (pos 0)
  pub plate : (i : ℕ) → i < 4 → field_of s (74 * length o.cells) i ≡ get_or (edges (in_ticks tick o.plate)) i (pos 0)
  pub columns : columns_of s (length o.cells) ≡ cond grid (length (widths o.memory)) 0
  pub rows : rows_of s (length o.cells) (columns_of s (length o.cells)) ≡ cond grid (length (heights o.memory)) 0
