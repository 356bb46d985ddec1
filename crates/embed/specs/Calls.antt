-- RULES 7.11: what the calls of include/platelist.h answer, and leave in the caller's memory.
use Rattle.std.specs.Prelude.{ℕ, Bool, cond, List, leb, ℤ, length}
use Rattle.std.proofs.lemmas.List.Edits.{sets}
use Rattle.emath.specs.Steps.{tick}
use Rattle.grid.specs.declared.Memory.{Memory}
use Rattle.sheet.specs.Ticks.{in_ticks}
use Rattle.sheet.specs.Slices.{edges, LaidOut, laid}
use Rattle.listing.specs.Lists.{list_of}

-- ---- RULES 7.11: platelist_pass and platelist_settle
-- the refusal's number and record (0 and 0: accepted), the slice of the rectangles, the plate's edges in ticks, the memory
pub record Exported : Type 0 where
  pub number : ℕ
  pub at : ℕ
  pub places : List ℤ
  pub plate : List ℤ
  pub memory : Memory

abbrev pub exported : LaidOut → Exported
exported l = record { number = l.outcome.number; at = l.outcome.at; places = l.slice; plate = edges (in_ticks tick l.outcome.plate); memory = l.outcome.memory }

-- one pass, with the memory where it is known, sizing or not; and the save flag
abbrev pub one_pass : List ℕ → Bool → Memory → Bool → List ℤ → Exported × Bool
one_pass text known m sizing out = (exported (laid text known m sizing out), (laid text known m sizing out).outcome.save)

-- ---- RULES 7.11: platelist_list
-- how long some bytes are, and a slice with them from its front where all of them have room; else the slice as it was
unfoldable pub whole : List ℕ → List ℕ → ℕ × List ℕ
whole out l = (length l, cond (leb (length l) (length out)) (sets out 0 l) out)

-- of a text's list
abbrev pub list_into : List ℕ → List ℕ → ℕ × List ℕ
list_into out text = whole out (list_of text)
