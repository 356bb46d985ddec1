-- RULES 7.1, 7.3 to 7.7: the list that `platelist` prints of a text.
use Rattle.std.specs.Prelude.{ℕ, ◌+◌, true, false, cond, ◌&&◌, List, [], ◌∷◌, ◌++◌, eqb, ℤ, pos, length, Float}
use Rattle.std.proofs.lemmas.List.Edits.{sets}
use Rattle.emath.specs.Steps.{tick}
use Rattle.grid.specs.Memories.{empty_memory, widths, heights}
use Rattle.grid.specs.declared.Memory.{Memory}
use Rattle.records.specs.Headings.{heading_in}
use Rattle.records.specs.Sheets.{records, widget, checked}
use Rattle.records.specs.declared.Heading.{Heading}
use Rattle.records.specs.Records.{Record}
use Rattle.records.specs.Sheets.{Checked}
use Rattle.records.specs.Sheets.{Accepted, Refused}
use Rattle.text.specs.Letters as letters
use Rattle.text.specs.Lines.{line}
use Rattle.sheet.specs.Pass.{Sheet, Cell, Outcome}
use Rattle.sheet.specs.Passes.{passes}
use Rattle.sheet.specs.Ticks.{ticks, in_ticks}
use Rattle.sheet.specs.Slices.{edges, eight, LaidOut, laid}
use Rattle.sheet.specs.Texts.{sheet_in}

-- ---- RULES 7.1: the pass that is printed: with a grid the second in turn, unless the first is refused; without one the first
unfoldable pub printed : Sheet → Outcome
printed s = cond (eqb (passes tick s empty_memory 0).number 0 && s.heading.has_grid) (passes tick s empty_memory 1) (passes tick s empty_memory 0)

-- over a text and one lent slice: what that pass gives, and what the slice then holds
unfoldable pub settled_from : List ℕ → LaidOut → LaidOut
settled_from text first =
    cond (eqb first.outcome.number 0 && (sheet_in text).heading.has_grid) (laid text true first.outcome.memory false first.slice) first

unfoldable pub settled : List ℕ → List ℤ → LaidOut
settled text out = settled_from text (laid text false empty_memory true out)

-- ---- the lines
-- RULES 7.4: those of W, with their cells, among records of which the first is record n
unfoldable pub widget_lines : ℕ → List Record → List Cell → List ℕ
widget_lines n [] cells = []
widget_lines n (r ∷ rs) [] = []
widget_lines n (r ∷ rs) (c ∷ cs) =
    cond (eqb (widget r) 1) (line letters.W (pos n ∷ eight c) ++ widget_lines (n + 1) rs cs) (widget_lines (n + 1) rs (c ∷ cs))

-- RULES 7.5: those of a memory's lengths, under C or D, from index i on
unfoldable pub entry_lines : ℕ → ℕ → List Float → List ℕ
entry_lines letter i [] = []
entry_lines letter i (x ∷ xs) = line letter (pos i ∷ ticks tick x ∷ []) ++ entry_lines letter (i + 1) xs

-- RULES 7.5: those of a memory, its columns and then its rows
unfoldable pub memory_lines : Memory → List ℕ
memory_lines m = entry_lines letters.C 0 (widths m) ++ entry_lines letters.D 0 (heights m)

-- RULES 7.3: all those of an accepted sheet: W, the plate, and in a grid the memory
unfoldable pub accepted_lines : Heading → List Record → Outcome → List ℕ
accepted_lines h rs o = widget_lines (h.records + 1) rs o.cells ++ (line letters.P (edges (in_ticks tick o.plate)) ++ cond h.has_grid (memory_lines o.memory) [])

-- RULES 7.6: the one line of a refused sheet
unfoldable pub refusal_line : ℕ → ℕ → List ℕ
refusal_line number at = line letters.X (pos number ∷ pos at ∷ [])

-- RULES 7.3, 7.6: by what the pass gives
unfoldable pub outcome_lines : Heading → List Record → Outcome → List ℕ
outcome_lines h rs o = cond (eqb o.number 0) (accepted_lines h rs o) (refusal_line o.number o.at)

-- ---- RULES 7.7: the list
-- by what the check of the text answers
unfoldable pub answered : Checked → List ℕ → List ℕ
answered (Refused number at) text = refusal_line number at
answered (Accepted count w) text = outcome_lines (heading_in text) (records text) (printed (sheet_in text))

-- checked for a slice with room for 512 W, so that 3 never applies
unfoldable pub list_of : List ℕ → List ℕ
list_of text = answered (checked text 4096) text

-- its length, and an array with the list from its front, every other place as it was
abbrev pub list_in : List ℕ → List ℕ → ℕ × List ℕ
list_in out text = (length (list_of text), sets out 0 (list_of text))
