-- RULES 8.4, 8.5, 8.11, 8.13: the faults of a memory and a grid, and the answers that carry the numbers.
use Rattle.std.specs.Prelude.{ℕ, ◌≡◌, Bool, true, false, cond, not, [], ◌∷◌, eqb, ltb, Float, Option, None, Some, Result, Ok, Err}
use Rattle.std.specs.Bool.{then_some}
use Rattle.emath.specs.Rectangles.{zero_f}
use Rattle.emath.specs.Numbers as number
use Rattle.emath.specs.Refusals.{when, least, pair_fault, size_fault, edges_fault, number_of, answer, answer_number, or_zeros}
use Rattle.emath.specs.declared.Refusal.{Refusal}
use Rattle.region.specs.Regions.{infinity}
use Rattle.region.specs.Refusals.{zero_if_open, cursor_fault}
use Rattle.grid.specs.Entries.{entries_fault}
use Rattle.grid.specs.Memories.{widths, heights}
use Rattle.emath.specs.declared.Vec2.{Vec2}
use Rattle.region.specs.declared.Direction.{Direction}
use Rattle.region.specs.declared.Direction.TheVariants.{LeftToRight, RightToLeft, TopDown, BottomUp}
use Rattle.grid.specs.declared.Memory.{Memory}
use Rattle.grid.specs.declared.GridLayout.{GridLayout}
use Rattle.grid.specs.declared.Moved.{Moved}
use Rattle.grid.specs.declared.Saved.{Saved}
use Rattle.grid.specs.declared.MemoryAnswer.{MemoryAnswer}
use Rattle.grid.specs.declared.GridAnswer.{GridAnswer}
use Rattle.grid.specs.declared.MovedAnswer.{MovedAnswer}
use Rattle.grid.specs.declared.SavedAnswer.{SavedAnswer}

-- ---- the faults of a state
-- RULES 8.5: 4, 5 and 6 of the counted entries; 8 where more is counted than there is room for
unfoldable pub memory_fault : Memory → ℕ
memory_fault m = least (entries_fault (widths m) ∷ entries_fault (heights m) ∷ when (ltb 32 m.cols) number.grid_full ∷ when (ltb 128 m.rows) number.grid_full ∷ [])

-- RULES 8.5: those of a size, but +∞ is allowed (RULES 5.3)
unfoldable pub max_cell_fault : Vec2 → ℕ
max_cell_fault v = size_fault (record { x = zero_if_open infinity v.x; y = zero_if_open infinity v.y })

-- RULES 8.5: those of its parts; 8 where it is past column 32 or row 128
unfoldable pub grid_fault : GridLayout → ℕ
grid_fault g = least (
    memory_fault g.prev_state ∷ memory_fault g.curr_state ∷ edges_fault g.initial_available ∷ pair_fault g.spacing.x g.spacing.y
    ∷ size_fault g.min_cell_size ∷ max_cell_fault g.max_cell_size ∷ when (ltb 32 g.col) number.grid_full ∷ when (ltb 128 g.row) number.grid_full ∷ [])

-- RULES 8.11: a grid is filled from the left or from the top; 7 for the other two
unfoldable pub fits_grid : Direction → Bool
fits_grid LeftToRight = true
fits_grid RightToLeft = false
fits_grid TopDown = true
fits_grid BottomUp = false

unfoldable pub direction_fault : Direction → ℕ
direction_fault d = when (not (fits_grid d)) number.not_in_grid

-- RULES 8.13: of a grid and a cursor that are new
unfoldable pub moved_fault : Direction → Moved → ℕ
moved_fault d m = least (grid_fault m.grid ∷ cursor_fault d m.cursor ∷ [])

-- ---- RULES 8.4: the answers
-- the number, and the state: the new one, or the one that was given
unfoldable pub memory_answer : ℕ → Memory → Memory → MemoryAnswer
memory_answer n given new = record { number = n; memory = cond (eqb n 0) new given }

unfoldable pub grid_answer : ℕ → GridLayout → GridLayout → GridAnswer
grid_answer n given new = record { number = n; grid = cond (eqb n 0) new given }

unfoldable pub moved_answer : ℕ → Moved → Moved → MovedAnswer
moved_answer n given new = record { number = n; moved = cond (eqb n 0) new given }

-- RULES 8.4: refused, the memory is the one that the pass was given, and the flag is clear
unfoldable pub saved_answer : ℕ → Memory → Saved → SavedAnswer
saved_answer n given new = record { number = n; saved = cond (eqb n 0) new (record { memory = given; save = false }) }

-- RULES 8.1, 8.4: what an answer says, where this state was given
abbrev pub memory_outcome : Memory → Result Memory Refusal → MemoryAnswer
memory_outcome given (Ok m) = record { number = 0; memory = m }
memory_outcome given (Err e) = record { number = number_of e; memory = given }

abbrev pub grid_outcome : GridLayout → Result GridLayout Refusal → GridAnswer
grid_outcome given (Ok g) = record { number = 0; grid = g }
grid_outcome given (Err e) = record { number = number_of e; grid = given }

abbrev pub moved_outcome : Moved → Result Moved Refusal → MovedAnswer
moved_outcome given (Ok m) = record { number = 0; moved = m }
moved_outcome given (Err e) = record { number = number_of e; moved = given }

abbrev pub saved_outcome : Memory → Result Saved Refusal → SavedAnswer
saved_outcome given (Ok s) = record { number = 0; saved = s }
saved_outcome given (Err e) = record { number = number_of e; saved = record { memory = given; save = false } }

-- RULES 8.4: an entry that may not be there, or the refusal's number
unfoldable pub entry_answer : ℕ → Bool → Float → Result (Option Float) ℕ
entry_answer n there v = answer n (then_some there v)

-- RULES 8.4: where nothing is remembered the value is zero, as where the call is refused
abbrev pub entry_value : Result (Option Float) ℕ → Float
entry_value (Ok (Some v)) = v
entry_value (Ok None) = zero_f
entry_value (Err n) = zero_f

abbrev pub SaysEntry : Result (Option Float) ℕ → ℕ → Float → Type 0
SaysEntry a n v = (answer_number a ≡ n) × (entry_value a ≡ or_zeros zero_f (answer_number a) v)
