-- A placer whose grid's arrays are lent beside it.
use Rattle.std.specs.Prelude.{ℕ, Bool, cond, List, Float, Result, Ok, Err}
use Rattle.emath.specs.Refusals.{lesser, extent_fault, number_of}
use Rattle.emath.specs.declared.Refusal.{Refusal}
use Rattle.emath.specs.declared.Rect.{Rect}
use Rattle.region.specs.Refusals.{region_fault}
use Rattle.layout.specs.declared.Layout.{Layout}
use Rattle.region.specs.declared.Region.{Region}
use Rattle.grid.specs.Implementation.Lent.{grid_of, noted_size, settings_of as grid_settings, state_of as grid_state}
use Rattle.grid.specs.declared.GridLayout.{GridLayout}
use Rattle.placer.specs.declared.PlacerAnswer.{PlacerAnswer}
use Rattle.placer.specs.declared.Placer.{Placer}
use Rattle.placer.specs.declared.PlacerSettings.{PlacerSettings}
use Rattle.placer.specs.declared.PassState.{PassState}

-- the previous widths and heights, then those of this pass
abbrev pub placer_of : PlacerSettings → PassState → List Float → List Float → List Float → List Float → Placer
placer_of p s pw ph ws hs = record { has_grid = p.has_grid; grid = grid_of p.grid s.grid pw ph ws hs; layout = p.layout; region = s.region }

-- a refused call gives the placer back as it was given
abbrev pub answer_of : PlacerSettings → PassState → Result PassState Refusal → List Float → List Float → List Float → List Float → PlacerAnswer
answer_of p s (Ok q) pw ph ws hs = record { number = 0; placer = placer_of p q pw ph ws hs }
answer_of p s (Err e) pw ph ws hs = record { number = number_of e; placer = placer_of p s pw ph ws hs }

-- a placer taken apart
abbrev pub settings_of : Placer → PlacerSettings
settings_of p = record { has_grid = p.has_grid; grid = grid_settings p.grid; layout = p.layout }

abbrev pub state_of : Placer → PassState
state_of p = record { region = p.region; grid = grid_state p.grid }

-- any placer of a layout and a region
abbrev pub placer_with : Bool → GridLayout → Layout → Region → Placer
placer_with b g l r = record { has_grid = b; grid = g; layout = l; region = r }

-- an advance of a placer without fault leaves no fault but the region's, or that of an entry which it raises
unfoldable pub raised_part : Placer → Rect → ℕ
raised_part p w = cond p.has_grid (lesser (extent_fault (noted_size p.grid w).x) (extent_fault (noted_size p.grid w).y)) 0

unfoldable pub past_part : Placer → Region → Rect → ℕ
past_part p r w = lesser (region_fault p.layout.main_dir r) (raised_part p w)
