-- The columns of a grid: which W are in one, and where columns start. What a stretch's rules will say of them; no promise rests on it yet.
use Rattle.std.specs.Prelude.{◌≡◌, ℕ, zero, suc, ◌+◌, ◌-◌, ◌≤◌, ℤ, pos, nat_abs, ◌+ℤ◌, ◌*ℤ◌, get_or, Float}
use mathlib.Core.List.{List, [], ◌∷◌, map, Forall₂}
use Rattle.grid.specs.Memories.{widths}
use Rattle.grid.specs.declared.Memory.{Memory}
use Rattle.records.specs.declared.Step.{Step}
use Rattle.records.specs.declared.Step.TheVariants.{Widget, Space, RowHeight, MaxWidth, MaxHeight, MinWidth, MinHeight, RowEnd}
use Rattle.sheet.specs.Pass.{Cell}
use Rattle.sheet.specs.Ticks.{ticks}

-- the column of each W, where the next W has column j
unfoldable pub columns_from : ℕ → List Step → List ℕ
columns_from j [] = []
columns_from j (Widget w h ∷ rest) = j ∷ columns_from (j + 1) rest
columns_from j (RowEnd ∷ rest) = columns_from 0 rest
columns_from j (Space a ∷ rest) = columns_from j rest
columns_from j (RowHeight h ∷ rest) = columns_from j rest
columns_from j (MaxWidth w ∷ rest) = columns_from j rest
columns_from j (MaxHeight h ∷ rest) = columns_from j rest
columns_from j (MinWidth w ∷ rest) = columns_from j rest
columns_from j (MinHeight h ∷ rest) = columns_from j rest

-- ---- columns side by side, in steps of 1 / 2 ^ k point
-- n controls, or n columns, have n - 1 spacings between them, none for none
abbrev pub spacings : ℤ → ℕ → ℤ
spacings gap n = pos (n - 1) *ℤ gap

-- the widths that a memory counts, of which none is negative; and column c's
abbrev pub column_widths : ℕ → Memory → List ℕ
column_widths k m = map (λ (x : Float). nat_abs (ticks k x)) (widths m)

abbrev pub width_in : List ℕ → ℕ → ℕ
width_in ws c = get_or ws c 0

-- where column c starts, and where it ends: column 0 starts at the left edge, each other one a gap after the one before
unfoldable pub start_of : ℤ → ℤ → (ℕ → ℕ) → ℕ → ℤ
start_of left gap wide zero = left
start_of left gap wide (suc c) = start_of left gap wide c +ℤ pos (wide c) +ℤ gap

abbrev pub end_of : ℤ → ℤ → (ℕ → ℕ) → ℕ → ℤ
end_of left gap wide c = start_of left gap wide c +ℤ pos (wide c)

-- a cell fills column c: its frame is the column, and its widget stands at the frame's left and is no wider
pub record InColumn (k : ℕ) (left gap : ℤ) (wide : ℕ → ℕ) (c : ℕ) (x : Cell) : Type 0 where
  pub frame-left : ticks k x.frame.left ≡ start_of left gap wide c
  pub frame_right : ticks k x.frame.right ≡ end_of left gap wide c
  pub widget-left : ticks k x.widget.left ≡ start_of left gap wide c
  pub width : ℕ
  pub widget-right : ticks k x.widget.right ≡ start_of left gap wide c +ℤ pos width
  pub narrow : width ≤ wide c

-- each of some cells its own column
abbrev pub InColumns : ℕ → ℤ → ℤ → (ℕ → ℕ) → List ℕ → List Cell → Type 0
InColumns k left gap wide columns cells = Forall₂ (InColumn k left gap wide) columns cells
