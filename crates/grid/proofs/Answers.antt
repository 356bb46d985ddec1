-- What an answer says of a state or of an entry. Assumes nothing.
use Rattle.std.proofs.Common.{◌≡◌, refl, sym, Bool, true, false, List, ℕ, zero, suc, ◌≤◌, arith, ltb, take, length-take}
use Rattle.std.proofs.lemmas.Bool.{ltb-false}
use Rattle.emath.specs.Rectangles.{zero_f}
use Rattle.std.specs.Prelude.{Option, None, Some, Float}
use Rattle.std.specs.Bool.{then_some}
use Rattle.emath.specs.Refusals.{fault_number, answered, answer, numbered, or_zeros}
use Rattle.emath.specs.declared.Refusal.{Refusal}
use Rattle.emath.specs.declared.Refusal.TheVariants.{Malformed}
use Rattle.emath.proofs.Refusals.{some, numbered-answer}
use Rattle.grid.specs.Entries.{entry}
use Rattle.grid.specs.Memories.{widths, heights, col_width, row_height}
use Rattle.grid.specs.Refusals.{memory_answer, grid_answer, moved_answer, saved_answer, entry_answer, memory_outcome, grid_outcome, moved_outcome, saved_outcome, SaysEntry}
use Rattle.grid.specs.declared.Memory.{Memory}
use Rattle.grid.specs.declared.GridLayout.{GridLayout}
use Rattle.grid.specs.declared.Moved.{Moved}
use Rattle.grid.specs.declared.Saved.{Saved}
use Rattle.grid.proofs.Remembered.{entry-none}

-- ---- of a state, by the number of what it was made of
pub memory-outcome : (given : Memory) (f : Option Refusal) (new : Memory) → memory_outcome given (answered f new) ≡ memory_answer (fault_number f) given new
unfolding memory_answer
memory-outcome given None new = refl
memory-outcome given (Some Malformed) new = refl
memory-outcome given (Some e) new = refl

pub grid-outcome : (given : GridLayout) (f : Option Refusal) (new : GridLayout) → grid_outcome given (answered f new) ≡ grid_answer (fault_number f) given new
unfolding grid_answer
grid-outcome given None new = refl
grid-outcome given (Some Malformed) new = refl
grid-outcome given (Some e) new = refl

pub moved-outcome : (given : Moved) (f : Option Refusal) (new : Moved) → moved_outcome given (answered f new) ≡ moved_answer (fault_number f) given new
unfolding moved_answer
moved-outcome given None new = refl
moved-outcome given (Some Malformed) new = refl
moved-outcome given (Some e) new = refl

pub saved-outcome : (given : Memory) (f : Option Refusal) (new : Saved) → saved_outcome given (answered f new) ≡ saved_answer (fault_number f) given new
unfolding saved_answer
saved-outcome given None new = refl
saved-outcome given (Some Malformed) new = refl
saved-outcome given (Some e) new = refl

-- ---- of an entry: one that is not there has the value zero
pub numbered-entry : (f : Option Refusal) (there : Bool) (v : Float) → numbered (answered f (then_some there v)) ≡ entry_answer (fault_number f) there v
unfolding entry_answer
numbered-entry f there v = numbered-answer f (then_some there v)

entry-says : (n : ℕ) (there : Bool) (v : Float) → (there ≡ false → v ≡ zero_f) → SaysEntry (entry_answer n there v) n v
unfolding entry_answer answer or_zeros
entry-says zero true v h = (refl, refl)
entry-says zero false v h = (refl, sym (h refl))
entry-says (suc n) there v h = rw (some n) (refl, rw (some n))

beyond : (xs : List Float) (n i : ℕ) → ltb i n ≡ false → entry (take n xs) i zero_f ≡ zero_f
beyond xs n i h = let l : n ≤ i = ltb-false i n h in entry-none (take n xs) i zero_f (simp length-take (omega arith))

pub col-says : (n : ℕ) (m : Memory) (col : ℕ) → SaysEntry (entry_answer n (ltb col m.cols) (col_width m col zero_f)) n (col_width m col zero_f)
unfolding col_width
col-says n m col = entry-says n (ltb col m.cols) (entry (widths m) col zero_f) (beyond m.col_widths m.cols col)

pub row-says : (n : ℕ) (m : Memory) (row : ℕ) → SaysEntry (entry_answer n (ltb row m.rows) (row_height m row zero_f)) n (row_height m row zero_f)
unfolding row_height
row-says n m row = entry-says n (ltb row m.rows) (entry (heights m) row zero_f) (beyond m.row_heights m.rows row)
