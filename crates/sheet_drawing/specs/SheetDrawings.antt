-- RULES 7.10, 7.12: the drawing of a sheet: that of its list, metric where the sheet has an M.
use Rattle.std.specs.Prelude.{ℕ, List}
use Rattle.records.specs.Headings.{has_unit}
use Rattle.listing.specs.Lists.{list_of}
use Rattle.drawing.specs.Pictures.{drawing, drawn_in}

-- RULES 7.10: its bytes; and its length with a slice that has it from its start on, every other place as it was
unfoldable pub sheet_drawing : List ℕ → List ℕ
sheet_drawing text = drawing (has_unit text) (list_of text)

abbrev pub sheet_drawn_in : List ℕ → List ℕ → ℕ × List ℕ
sheet_drawn_in out text = drawn_in (has_unit text) out (list_of text)
