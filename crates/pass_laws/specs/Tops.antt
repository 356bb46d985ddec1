-- RULES 10.8, 10.9: whether the cursor's top is on a whole step when a W comes. Steps are of 1 / 2 ^ k point.
use Rattle.std.specs.Prelude.{List, [], ◌∷◌, Bool, ℕ, Float}
use Rattle.emath.specs.Steps.{Edge}
use Rattle.emath.specs.declared.Vec2.{Vec2}
use Rattle.grid.specs.declared.Memory.{Memory}
use Rattle.placer.specs.declared.Placer.{Placer}
use Rattle.records.specs.declared.Step.{Step}
use Rattle.records.specs.declared.Step.TheVariants.{Widget, Space, RowHeight, MaxWidth, MaxHeight, MinWidth, MinHeight, RowEnd}
use Rattle.sheet.specs.Pass.{Sheet, stepped, headed, grid_set}

-- RULES 10.8: the cursor's top is on a whole step at each W among the records, from the placer p on
unfoldable pub FindsTops : ℕ → Vec2 → Placer → List Step → Type 0
FindsTops k sp p [] = Unit {0}
FindsTops k sp p (Widget w h ∷ rest) = Edge k p.region.cursor.top × FindsTops k sp (stepped k sp p (Widget w h)).placer rest
FindsTops k sp p (RowEnd ∷ rest) = FindsTops k sp (stepped k sp p RowEnd).placer rest
FindsTops k sp p (Space a ∷ rest) = FindsTops k sp (stepped k sp p (Space a)).placer rest
FindsTops k sp p (RowHeight h ∷ rest) = FindsTops k sp (stepped k sp p (RowHeight h)).placer rest
FindsTops k sp p (MaxWidth w ∷ rest) = FindsTops k sp (stepped k sp p (MaxWidth w)).placer rest
FindsTops k sp p (MaxHeight h ∷ rest) = FindsTops k sp (stepped k sp p (MaxHeight h)).placer rest
FindsTops k sp p (MinWidth w ∷ rest) = FindsTops k sp (stepped k sp p (MinWidth w)).placer rest
FindsTops k sp p (MinHeight h ∷ rest) = FindsTops k sp (stepped k sp p (MinHeight h)).placer rest

-- RULES 10.8: so it is in a pass over a grid sheet, with a memory or none, sizing or not
abbrev pub TopsOnSteps : ℕ → Sheet → Bool → Memory → Bool → Type 0
TopsOnSteps k s known m sizing = FindsTops k s.heading.spacing (grid_set s.heading known m sizing (headed k s.heading).placer).placer s.steps

-- RULES 10.9: no record is a K
pub data NoK : List Step → Type 0 where
  none : NoK []
  control : {w h : Float} {rest : List Step} → NoK rest → NoK (Widget w h ∷ rest)
  row_end : {rest : List Step} → NoK rest → NoK (RowEnd ∷ rest)
  space : {a : Float} {rest : List Step} → NoK rest → NoK (Space a ∷ rest)
  row_height : {h : Float} {rest : List Step} → NoK rest → NoK (RowHeight h ∷ rest)
  max_width : {w : Float} {rest : List Step} → NoK rest → NoK (MaxWidth w ∷ rest)
  min_width : {w : Float} {rest : List Step} → NoK rest → NoK (MinWidth w ∷ rest)
  min_height : {h : Float} {rest : List Step} → NoK rest → NoK (MinHeight h ∷ rest)
