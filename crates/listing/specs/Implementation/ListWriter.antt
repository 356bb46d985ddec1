-- For the contracts of src/lines.rt and src/printing.rt: the list as the code writes it, line after line.
use Rattle.std.specs.Prelude.{ℕ, zero, suc, ◌+◌, ◌*◌, ◌≤◌, Bool, true, false, cond, ◌&&◌, List, [], ◌∷◌, leb, eqb, ℤ, pos, length, get_or, drop, Float}
use Rattle.std.proofs.lemmas.List.Edits.{sets}
use Rattle.emath.specs.Steps.{tick, Edge}
use Rattle.emath.specs.declared.Rect.{Rect}
use Rattle.region.specs.Steps.{WholeRect}
use Rattle.grid.specs.Memories.{widths, heights}
use Rattle.grid.specs.declared.Memory.{Memory}
use Rattle.records.specs.Parts.{letter}
use Rattle.records.specs.Records.{rest}
use Rattle.records.specs.Headings.{heading_in}
use Rattle.records.specs.Sheets.{steps_left}
use Rattle.text.specs.Letters as letters
use Rattle.text.specs.Lines.{line, have_texts}
use Rattle.sheet.specs.Slices.{Laid}
use Rattle.sheet.specs.Slices as Laid-of
use Rattle.sheet.specs.Slices.{Passed}
use Rattle.sheet.specs.Ticks.{ticks, in_ticks}
use Rattle.sheet.specs.Slices.{edges}

-- where the next line begins, and what the array holds so far
pub record Put : Type 0 where
  pub at : ℕ
  pub out : List ℕ

-- how long a line of these numbers is
abbrev pub bytes : List ℤ → ℕ
bytes zs = 2 + 8 * length zs

-- a line, where it has room and each number a text
unfoldable pub put_line : ℕ → List ℤ → Put → Put
put_line letter zs p =
    cond (leb (p.at + bytes zs) (length p.out) && have_texts zs)
    (record { at = p.at + bytes zs; out = sets p.out p.at (line letter zs) })
    p

-- the eight places of W number k
abbrev pub places_of : List ℤ → ℕ → List ℤ
places_of cells k =
    get_or cells (8 * k) (pos 0) ∷ get_or cells (8 * k + 1) (pos 0) ∷ get_or cells (8 * k + 2) (pos 0) ∷ get_or cells (8 * k + 3) (pos 0)
    ∷ get_or cells (8 * k + 4) (pos 0) ∷ get_or cells (8 * k + 5) (pos 0) ∷ get_or cells (8 * k + 6) (pos 0) ∷ get_or cells (8 * k + 7) (pos 0) ∷ []

-- 1 where the text begins with a W, else 0
unfoldable pub mark : List ℕ → ℕ
mark s = cond (eqb (letter s) letters.W) 1 0

-- the line of W number k, which is record n, where `here` is 1
unfoldable pub put_widget : ℕ → ℕ → ℕ → List ℤ → Put → Put
put_widget here n k cells p = cond (eqb here 0) p (put_line letters.W (pos n ∷ places_of cells k) p)

-- the lines of W: record n is at the front of the text, k W came before it, and at most so many records are left
unfoldable pub put_widgets : ℕ → ℕ → ℕ → List ℕ → List ℤ → Put → Put
put_widgets zero n k s cells p = p
put_widgets (suc left) n k [] cells p = p
put_widgets (suc left) n k (b ∷ s) cells p = put_widgets left (n + 1) (k + mark (b ∷ s)) (rest (b ∷ s)) cells (put_widget (mark (b ∷ s)) n k cells p)

-- the lines of a memory's lengths, from index i on
unfoldable pub put_entries : ℕ → ℕ → List Float → Put → Put
put_entries letter i [] p = p
put_entries letter i (x ∷ xs) p = put_entries letter (i + 1) xs (put_line letter (pos i ∷ ticks tick x ∷ []) p)

unfoldable pub put_memory : Memory → Put → Put
put_memory m p = put_entries letters.D 0 (heights m) (put_entries letters.C 0 (widths m) p)

unfoldable pub put_accepted : List ℕ → List ℤ → Rect → Memory → Put → Put
put_accepted text cells plate m p = put_memory m (put_line letters.P (edges (in_ticks tick plate)) (put_widgets (steps_left text) ((heading_in text).records + 1) 0 (drop (heading_in text).next text) cells p))

-- lengths that are whole ticks
pub data Whole : List Float → Type 0 where
  none : Whole []
  more : {x : Float} {xs : List Float} → Edge tick x → Whole xs → Whole (x ∷ xs)

pub record WholeMemory (m : Memory) : Type 0 where
  pub cols : m.cols ≤ 32
  pub rows : m.rows ≤ 128
  pub widths : Whole (widths m)
  pub heights : Whole (heights m)

-- ---- a pass
unfoldable pub is_accepted : Laid → Bool
is_accepted Laid-of.Accepted = true
is_accepted (Laid-of.Refused number at) = false

-- it can be printed: its plate and memory are in whole ticks, or its record is at most 600
unfoldable pub printable : Laid → Passed → Type 0
printable Laid-of.Accepted p = WholeRect tick p.plate × WholeMemory p.memory
printable (Laid-of.Refused number at) p = at ≤ 600

abbrev pub Printable : Passed → Type 0
Printable p = printable p.laid p

-- its lines
unfoldable pub put_passed : Laid → List ℕ → List ℤ → Passed → Put → Put
put_passed Laid-of.Accepted text cells p at = put_accepted text cells p.plate p.memory at
put_passed (Laid-of.Refused number n) text cells p at = put_line letters.X (pos number ∷ pos n ∷ []) at
