-- RULES 8.4, 8.5, 8.12, 8.13: the faults of a placer, and the answer that carries the number.
use Rattle.std.specs.Prelude.{ℕ, false, cond, ◌&&◌, [], ◌∷◌, eqb, leb, Result, Ok, Err}
use Rattle.emath.specs.Numbers as number
use Rattle.emath.specs.Refusals.{when, least, or_else, outside, number_of}
use Rattle.emath.specs.declared.Refusal.{Refusal}
use Rattle.region.specs.Refusals.{region_fault, zero_region}
use Rattle.grid.specs.Grids.{empty_grid}
use Rattle.grid.specs.Refusals.{grid_fault, direction_fault}
use Rattle.layout.specs.declared.Layout.{Layout}
use Rattle.placer.specs.declared.Placer.{Placer}
use Rattle.placer.specs.declared.PlacerAnswer.{PlacerAnswer}

-- RULES 8.5: the whole state: the region, and where there is a grid its state and 7 for a direction that no grid has
unfoldable pub grid_part : Placer → ℕ
grid_part p = cond p.has_grid (least (grid_fault p.grid ∷ direction_fault p.layout.main_dir ∷ [])) 0

unfoldable pub placer_fault : Placer → ℕ
placer_fault p = least (region_fault p.layout.main_dir p.region ∷ grid_part p ∷ [])

-- RULES 8.12: 8 where a grid has no column or no row left for a cell
unfoldable pub advance_fault : Placer → ℕ
advance_fault p = least (when (p.has_grid && leb 32 p.grid.col) number.grid_full ∷ when (p.has_grid && leb 128 p.grid.row) number.grid_full ∷ [])

-- RULES 8.12: 8 where it has no row left to end
unfoldable pub end_row_fault : Placer → ℕ
end_row_fault p = when (p.has_grid && leb 128 p.grid.row) number.grid_full

-- RULES 8.4: there is no given placer: a refused `new` answers one whose region is all zero
abbrev pub zero_placer : Layout → Placer
zero_placer l = record { has_grid = false; grid = empty_grid; layout = l; region = zero_region }

-- RULES 8.1, 8.4: what an answer says, where this placer was given
abbrev pub placer_outcome : Placer → Result Placer Refusal → PlacerAnswer
placer_outcome given (Ok p) = record { number = 0; placer = p }
placer_outcome given (Err e) = record { number = number_of e; placer = given }

-- RULES 8.4: a refused call gives the placer back as it was given
unfoldable pub placer_answer : ℕ → Placer → Placer → PlacerAnswer
placer_answer n given new = record { number = n; placer = cond (eqb n 0) new given }

-- RULES 8.13: the arguments' number, or else 9 where the new placer has a fault of its own
unfoldable pub changed_placer : ℕ → Placer → Placer → PlacerAnswer
changed_placer before given new = placer_answer (or_else before (outside (placer_fault new))) given new
