-- RULES 10.7: the controls of a grid's column, and how wide they make it.
use Rattle.std.specs.Prelude.{cond, List, [], ◌∷◌, ℕ, ◌+◌, eqb, Float}
use Rattle.emath.specs.Rectangles.{max_f}
use Rattle.records.specs.declared.Step.{Step}
use Rattle.records.specs.declared.Step.TheVariants.{Widget, Space, RowHeight, MaxWidth, MaxHeight, MinWidth, MinHeight, RowEnd}

-- RULES 10.7: the widths of the controls in column c, where the next W has column j; an E goes back to column 0
unfoldable pub in_column : ℕ → ℕ → List Step → List Float
in_column c j [] = []
in_column c j (Widget w h ∷ rest) = cond (eqb j c) (w ∷ in_column c (j + 1) rest) (in_column c (j + 1) rest)
in_column c j (RowEnd ∷ rest) = in_column c 0 rest
in_column c j (Space a ∷ rest) = in_column c j rest
in_column c j (RowHeight h ∷ rest) = in_column c j rest
in_column c j (MaxWidth w ∷ rest) = in_column c j rest
in_column c j (MaxHeight h ∷ rest) = in_column c j rest
in_column c j (MinWidth w ∷ rest) = in_column c j rest
in_column c j (MinHeight h ∷ rest) = in_column c j rest

-- RULES 10.7: the widest of some, or the minimum where that is more
unfoldable pub widest : Float → List Float → Float
widest smallest [] = smallest
widest smallest (w ∷ ws) = max_f w (widest smallest ws)
