-- RULES 6.22: a sheet in whole steps of 1 / 2 ^ k point, as every text gives it in ticks.
use Rattle.std.specs.Prelude.{List, [], ◌∷◌, ℕ, Float}
use Rattle.emath.specs.Steps.{Edge}
use Rattle.region.specs.Steps.{WholeRect, WholeSize}
use Rattle.records.specs.declared.Step.{Step}
use Rattle.records.specs.declared.Step.TheVariants.{Widget, Space, RowHeight, MaxWidth, MaxHeight, MinWidth, MinHeight, RowEnd}
use Rattle.sheet.specs.Pass.{Sheet}

-- RULES 6.22: every length of a record is a whole number of steps
pub data WholeSteps (k : ℕ) : List Step → Type 0 where
  none : WholeSteps k []
  control : {w h : Float} {rest : List Step} → Edge k w → Edge k h → WholeSteps k rest → WholeSteps k (Widget w h ∷ rest)
  space : {a : Float} {rest : List Step} → Edge k a → WholeSteps k rest → WholeSteps k (Space a ∷ rest)
  row_height : {h : Float} {rest : List Step} → Edge k h → WholeSteps k rest → WholeSteps k (RowHeight h ∷ rest)
  max_width : {w : Float} {rest : List Step} → Edge k w → WholeSteps k rest → WholeSteps k (MaxWidth w ∷ rest)
  max_height : {h : Float} {rest : List Step} → Edge k h → WholeSteps k rest → WholeSteps k (MaxHeight h ∷ rest)
  min_width : {w : Float} {rest : List Step} → Edge k w → WholeSteps k rest → WholeSteps k (MinWidth w ∷ rest)
  min_height : {h : Float} {rest : List Step} → Edge k h → WholeSteps k rest → WholeSteps k (MinHeight h ∷ rest)
  row_end : {rest : List Step} → WholeSteps k rest → WholeSteps k (RowEnd ∷ rest)

-- RULES 6.22: and of the heading. G's maximum cell may be infinite, and these laws don't ask for it.
pub record WholeSheet (k : ℕ) (s : Sheet) : Type 0 where
  pub rect : WholeRect k s.heading.max_rect
  pub spacing : WholeSize k s.heading.spacing
  pub smallest : WholeSize k s.heading.options.min_cell_size
  pub steps : WholeSteps k s.steps
