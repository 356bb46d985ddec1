-- RULES 6.12: the sheet that a text holds, its heading and its steps as crate records reads them. Where 1 to 3 apply it means nothing.
use Rattle.std.specs.Prelude.{List, [], ◌∷◌, ℕ}
use Rattle.records.specs.Headings.{heading_in}
use Rattle.records.specs.Sheets.{records}
use Rattle.records.specs.declared.Step.{Step}
use Rattle.records.specs.Records.{Record}
use Rattle.std.specs.Prelude.{None, Some}
use Rattle.sheet.specs.Pass.{Sheet}

-- ---- RULES 6.12: the steps among some records, and the sheet
unfoldable pub steps_of : List Record → List Step
steps_of [] = []
steps_of (Some st ∷ rest) = st ∷ steps_of rest
steps_of (None ∷ rest) = steps_of rest

abbrev pub sheet_in : List ℕ → Sheet
sheet_in text = record { heading = heading_in text; steps = steps_of (records text) }
