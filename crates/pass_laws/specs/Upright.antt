-- RULES 8.14, 8.18: the rectangles of a pass are upright, and each W is its three calls. The step of rounding is 1 / 2 ^ k point.
use Rattle.std.specs.Prelude.{List, [], ◌∷◌, Bool, cond, ℕ, T}
use Rattle.emath.specs.Domain.{upright}
use Rattle.emath.specs.declared.Vec2.{Vec2}
use Rattle.grid.specs.declared.Memory.{Memory}
use Rattle.placer.specs.declared.Placer.{Placer}
use Rattle.records.specs.declared.Step.{Step}
use Rattle.records.specs.declared.Step.TheVariants.{Widget, Space, RowHeight, MaxWidth, MaxHeight, MinWidth, MinHeight, RowEnd}
use Rattle.sheet.specs.Pass.{Sheet, Cell, stepped, headed, grid_set}
use Rattle.sheet.specs.WidgetCalls.{IsItsCalls}
use Rattle.pass_laws.specs.EachCell.{EachCell}

-- RULES 8.14: a W's frame is upright, and its widget; and so each W's
pub record UprightCell (c : Cell) : Type 0 where
  pub frame : T (upright c.frame)
  pub widget : T (upright c.widget)

abbrev pub UprightCells : List Cell → Type 0
UprightCells cells = EachCell UprightCell cells

-- RULES 8.18: a step that is a W is its three calls
unfoldable pub ByCalls : ℕ → Vec2 → Placer → Step → Type 0
ByCalls k sp p (Widget w h) = IsItsCalls k sp p (record { x = w; y = h })
ByCalls k sp p (Space a) = Unit {0}
ByCalls k sp p RowEnd = Unit {0}
ByCalls k sp p (RowHeight h) = Unit {0}
ByCalls k sp p (MaxWidth w) = Unit {0}
ByCalls k sp p (MaxHeight h) = Unit {0}
ByCalls k sp p (MinWidth w) = Unit {0}
ByCalls k sp p (MinHeight h) = Unit {0}

-- RULES 8.18: so is each of some steps, from the placer p on
unfoldable pub AllByCalls : ℕ → Vec2 → Placer → List Step → Type 0
AllByCalls k sp p [] = Unit {0}
AllByCalls k sp p (st ∷ rest) = ByCalls k sp p st × AllByCalls k sp (stepped k sp p st).placer rest

-- RULES 8.18: and of a pass, from the placer that H leaves, or G
abbrev pub first_placer : ℕ → Sheet → Bool → Memory → Bool → Placer
first_placer k s known m sizing = cond s.heading.has_grid (grid_set s.heading known m sizing (headed k s.heading).placer).placer (headed k s.heading).placer

abbrev pub PassByCalls : ℕ → Sheet → Bool → Memory → Bool → Type 0
PassByCalls k s known m sizing = AllByCalls k s.heading.spacing (first_placer k s known m sizing) s.steps
