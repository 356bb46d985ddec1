-- RULES 6.11, 6.24, 8.6: what comes before the first step: H, after it an M where its letter stands, and after these a G where its letter
-- stands. What they say, and what is wrong there.
use Rattle.std.specs.Prelude.{ℕ, ◌+◌, List, Bool, true, cond, eqb, drop}
use Rattle.region.specs.Regions.{zero_vec}
use Rattle.text.specs.Letters as letters
use Rattle.records.specs.declared.GridOptions.{GridOptions}
use Rattle.records.specs.declared.SizeUnit.{SizeUnit}
use Rattle.records.specs.declared.SizeUnit.TheVariants.{Steps, Hundredths}
use Rattle.records.specs.declared.Heading.{Heading}
use Rattle.records.specs.Parts.{letter, ends}
use Rattle.records.specs.Records.{pair_in, layout_in, rect_in, heading_fits, options_in, grid_fits, next_at}

-- ---- RULES 6.11: a record that may be there or not
-- whether a record of this letter is at a place, how many that are, and where the next one begins
unfoldable pub stands : ℕ → List ℕ → ℕ → Bool
stands b s at = eqb (letter (drop at s)) b

abbrev pub one : Bool → ℕ
one b = cond b 1 0

unfoldable pub past : ℕ → List ℕ → ℕ → ℕ
past b s at = cond (stands b s at) (next_at s at) at

-- ---- RULES 6.11: where M may be, where G may be, and where the steps begin
abbrev pub unit_at : List ℕ → ℕ
unit_at s = next_at s 0

abbrev pub grid_at : List ℕ → ℕ
grid_at s = past letters.M s (unit_at s)

abbrev pub steps_at : List ℕ → ℕ
steps_at s = past letters.G s (grid_at s)

-- RULES 6.24: whether an M is there, and so what the fields of the W are in
unfoldable pub has_unit : List ℕ → Bool
has_unit s = stands letters.M s (unit_at s)

unfoldable pub unit_in : List ℕ → SizeUnit
unit_in s = cond (has_unit s) Hundredths Steps

-- RULES 6.11: whether a G is there
unfoldable pub has_grid_lem : List ℕ → Bool
has_grid_lem s = stands letters.G s (grid_at s)

-- RULES 6.11: without a G, zeros in its place
abbrev pub no_options : GridOptions
no_options = record { min_cell_size = zero_vec; max_cell_size = zero_vec; num_columns = 0; start_row = 0 }

-- RULES 6.11: what they say, how many records they are, and where the next one begins
unfoldable pub heading_in : List ℕ → Heading
heading_in s = record {
  layout = layout_in s;
  max_rect = rect_in s;
  spacing = pair_in s 10;
  unit = unit_in s;
  has_grid = has_grid_lem s;
  options = cond (has_grid_lem s) (options_in (drop (grid_at s) s)) no_options;
  records = 1 + one (has_unit s) + one (has_grid_lem s);
  next = steps_at s;
}

-- ---- RULES 8.6: whether M and G are as they should be, where they are there
unfoldable pub unit_fits : List ℕ → Bool
unit_fits s = cond (has_unit s) (ends (drop (unit_at s) s) 0) true

unfoldable pub options_fit : List ℕ → Bool
options_fit s = cond (has_grid_lem s) (grid_fits (drop (grid_at s) s)) true

-- RULES 8.6: which of them is the first that is malformed: 1 is H, also where it is missing, 2 is M, and G is the last of them; 0 for none
unfoldable pub heading_fault : List ℕ → ℕ
heading_fault s = cond (heading_fits s) (cond (unit_fits s) (cond (options_fit s) 0 (heading_in s).records) 2) 1
