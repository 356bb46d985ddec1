-- Computed from the rules: the cases of RULES 9; that the clause speaks of something, two strips and two grids that it covers, with the
-- clause applied to them; and why each condition is there (RULES 10.11): pairs of accepted, grown sheets that break the conclusion, each
-- without one condition, and passes that begin with a memory and do not settle at the second. Assumes nothing.
use Prim.Native.Nat.{ℕ}
use mathlib.Core.Path.{◌≡◌, refl}
use mathlib.Core.Bool.{true, false}
use mathlib.Core.List.Forall₂
use mathlib.Core.List.{List, [], ◌∷◌, ◌++◌, map}
use lib.IntN.{ℤ, pos, negsuc, ◌+ℤ◌, ◌-ℤ◌}
use lib.ListN.{length}
use Rattle.emath.specs.Rectangles as rectangles
use Rattle.emath.specs.Domain as domain
use Rattle.emath.specs.Refusals as refusals
use Rattle.emath.specs.Steps as steps
use Rattle.region.specs.Directions as directions
use Rattle.layout.specs.Layouts as layouts
use Rattle.region.specs.Regions as regions
use Rattle.layout.specs.Rules as layout-rules
use Rattle.region.specs.Refusals as layout-refusals
use Rattle.grid.specs.Entries as entries
use Rattle.grid.specs.Memories as memories
use Rattle.grid.specs.Grids as grids
use Rattle.grid.specs.Refusals as grid-refusals
use Rattle.grid.specs.Operations as grid-operations
use Rattle.placer.specs.Rules as placer-rules
use Rattle.placer.specs.Refusals as placer-refusals
use Rattle.placer.specs.Operations as placer-operations
use Rattle.text.specs.Fields as fields
use Rattle.text.specs.Lines as lines
use Rattle.records.specs.Units as units
use Rattle.records.specs.Parts as parts
use Rattle.records.specs.Records as records
use Rattle.records.specs.Headings as headings
use Rattle.records.specs.Sheets as sheets
use Rattle.sheet.specs.Pass as pass-rules
use Rattle.sheet.specs.Passes as passes-rules
use Rattle.sheet.specs.Texts as texts
use Rattle.sheet.specs.Slices as slices
use Rattle.listing.specs.Lists as lists
use lib.Ieee as ieee
use Rattle.records.specs.Conversions as conversions
use Rattle.records.specs.Controls as sheet-controls
use Rattle.emath.specs.declared.Align.TheVariants.{Min, Center}
use Rattle.emath.specs.Steps.{val}
use Rattle.grid.specs.Entries.{zeros}
use Rattle.grid.specs.Memories.{empty_memory, heights}
use Rattle.grid.specs.declared.Memory.{Memory}
use Rattle.sheet.specs.Pass.{Cell, Outcome, pass}
use Rattle.sheet.specs.Passes.{passes}
use Rattle.sheet.specs.Texts.{sheet_in}
use Rattle.price_clause.specs.Sheets.{GrownSheet, Grown, Strip, NoNegativeSpacing}
use Rattle.sheet.specs.Ticks.{ticks, in_ticks, width, height}
use Rattle.price_clause.specs.PriceClause.{NoLess}
use Rattle.price_clause.specs.Cases as cases
use Rattle.price_clause.specs.Cases.{Case, heading, grid, table, all_hold}
use Rattle.records.specs.Writers.{H, M, W, S, E}
use Rattle.records.specs.Conversions.{step_parts, hundredth_parts, total}
use Rattle.records.specs.Controls.{only_controls, sizes_in}
use Rattle.records.specs.declared.SizeUnit.TheVariants.{Hundredths}
use Rattle.price_clause.specs.UnitClause.{Alike, NoSmaller, GrownText, spacings, widths, Margin}
use Rattle.price_clause.proofs.PriceClause.{price-clause}
use Rattle.price_clause.proofs.OfCases.CaseTests.{found-as-expected}

-- ---- the sheets
abbrev pub strip : ℤ → ℤ → List ℕ
strip w h = heading (pos 0) (pos 0) (pos 1) (pos 6400) (pos 3200) (pos 256) (pos 128) ++ (W w (pos 320) ++ W (pos 320) h)

abbrev pub cells : ℤ → ℤ → List ℕ
cells w h = heading (pos 0) (pos 0) (pos 1) (pos 6400) (pos 3200) (pos 256) (pos 128) ++ (grid (pos 320) (pos 160) ++ (W w (pos 160) ++ (W (pos 100) h ++ (E ++ W (pos 200) (pos 50)))))

-- three controls of no size, 10 ticks before each other, but for the second one's width
abbrev pub overlapping : ℤ → List ℕ
overlapping w = heading (pos 0) (pos 0) (pos 0) (pos 6400) (pos 3200) (negsuc 9) (pos 0) ++ (W (pos 0) (pos 0) ++ (W w (pos 0) ++ W (pos 0) (pos 0)))

-- three rows of no height, 10 ticks before each other, but for the second one's height
abbrev pub overlapping_rows : ℤ → List ℕ
overlapping_rows h = heading (pos 0) (pos 0) (pos 0) (pos 6400) (pos 3200) (pos 0) (negsuc 9) ++ (grid (pos 0) (pos 0) ++ (W (pos 0) (pos 0) ++ (E ++ (W (pos 0) h ++ (E ++ W (pos 0) (pos 0))))))

abbrev pub wrapped : ℤ → List ℕ
wrapped w = heading (pos 0) (pos 1) (pos 0) (pos 640) (pos 3200) (pos 0) (pos 0) ++ (W (pos 320) (pos 100) ++ W w (pos 100))

abbrev pub right_to_left : ℤ → List ℕ
right_to_left w = heading (pos 1) (pos 0) (pos 0) (pos 6400) (pos 3200) (pos 0) (pos 0) ++ W w (pos 10)

-- one control of 5 by 5 in a row that starts 6 ticks above zero; and a memory of one row of 10 ticks
abbrev pub across_zero : List ℕ
across_zero = H (pos 0 ∷ pos 0 ∷ pos 0 ∷ pos 0 ∷ pos 0 ∷ pos 0 ∷ []) (pos 0 ∷ negsuc 5 ∷ pos 6400 ∷ pos 3200 ∷ []) (pos 0 ∷ pos 0 ∷ []) ++ (grid (pos 0) (pos 0) ++ W (pos 5) (pos 5))

abbrev pub ten_tall : Memory
ten_tall = record { col_widths = zeros 32; cols = 0; row_heights = val 5 (pos 10) ∷ zeros 127; rows = 1 }

-- ---- a strip's pass, and a grid's second
abbrev pub laid : List ℕ → Outcome
laid text = pass 5 (sheet_in text) false empty_memory true

abbrev pub settled : List ℕ → Outcome
settled text = passes 5 (sheet_in text) empty_memory 1

-- ---- strips in hundredths of a millimetre
-- a strip with wrap or without, with this much between two controls
abbrev pub metric : ℤ → ℤ → List ℕ → List ℕ
metric wrap gap after = heading (pos 0) wrap (pos 0) (pos 640) (pos 3200) gap (pos 0) ++ (M ++ after)

-- the same heading, without M
abbrev pub in_tick_units : List ℕ → List ℕ
in_tick_units after = heading (pos 0) (pos 0) (pos 0) (pos 640) (pos 3200) (pos 0) (pos 0) ++ after

abbrev pub three_controls : ℤ → List ℕ
three_controls w = W w (pos 635) ++ (E ++ (W w (pos 635) ++ W w (pos 635)))

-- the margin, of the plate that a text has
abbrev pub MarginOf : List ℕ → Type 0
MarginOf text = Margin 5 (width (in_ticks 5 (laid text).plate)) (ticks 5 (sheet_in text).heading.spacing.x) (widths (sizes_in text))

-- both sides of it: the parts of the plate without its spacings, and those of the fields
abbrev pub plate_part : List ℕ → ℤ
plate_part text = step_parts (width (in_ticks 5 (laid text).plate)) -ℤ step_parts (spacings (ticks 5 (sheet_in text).heading.spacing.x) (length (sizes_in text)))

abbrev pub field_part : List ℕ → ℤ
field_part text = hundredth_parts 5 (total (widths (sizes_in text)))

-- accepted, grown from the first to the second
pub record Pair (a b : List ℕ) : Type 0 where
  pub first : (laid a).number ≡ 0
  pub second : (laid b).number ≡ 0
  pub grown : GrownSheet (sheet_in a) (sheet_in b)

pub record GridPair (a b : List ℕ) : Type 0 where
  pub passes-of-first : ((passes 5 (sheet_in a) empty_memory 0).number ≡ 0) × ((passes 5 (sheet_in a) empty_memory 1).number ≡ 0)
  pub passes-of-second : ((passes 5 (sheet_in b) empty_memory 0).number ≡ 0) × ((passes 5 (sheet_in b) empty_memory 1).number ≡ 0)
  pub grown : GrownSheet (sheet_in a) (sheet_in b)

-- the left edge of the first frame, in ticks
abbrev left_of : List Cell → ℤ
left_of [] = pos 0
left_of (c ∷ rest) = (in_ticks 5 c.frame).left

abbrev pub first_left : Outcome → ℤ
first_left o = left_of o.cells

-- the rows that a pass remembers, in ticks; and two passes, the first of them with a memory that no pass gave
abbrev pub rows_of : Outcome → List ℤ
rows_of o = map (ticks 5) (heights o.memory)

abbrev pub given : List ℕ → Memory → Outcome
given text m = pass 5 (sheet_in text) true m true

abbrev pub given_then : List ℕ → Memory → Outcome
given_then text m = pass 5 (sheet_in text) true (given text m).memory false

pub record Computed : Type 0 where
  -- the table of RULES 9 holds
  pub cases-hold-all : all_hold table ≡ true
  -- the clause can be met
  pub strips : Pair (strip (pos 640) (pos 480)) (strip (pos 700) (pos 500))
  pub is-strip : Strip (sheet_in (strip (pos 640) (pos 480)))
  pub strip-spacing : NoNegativeSpacing (sheet_in (strip (pos 640) (pos 480)))
  pub grids : GridPair (cells (pos 640) (pos 161)) (cells (pos 650) (pos 170))
  pub is-grid : (sheet_in (cells (pos 640) (pos 161))).heading.has_grid ≡ true
  pub grid-spacing : NoNegativeSpacing (sheet_in (cells (pos 640) (pos 161)))
  -- negative spacing: the plate of a strip gets narrower, 20 ticks to 15, and a grid's less tall
  pub strip-overlaps : Pair (overlapping (pos 0)) (overlapping (pos 5))
  pub strip-narrower : (width (in_ticks 5 (laid (overlapping (pos 0))).plate) ≡ pos 20) × (width (in_ticks 5 (laid (overlapping (pos 5))).plate) ≡ pos 15)
  pub rows-overlap : GridPair (overlapping_rows (pos 0)) (overlapping_rows (pos 5))
  pub grid-less-tall : (height (in_ticks 5 (settled (overlapping_rows (pos 0))).plate) ≡ pos 20) × (height (in_ticks 5 (settled (overlapping_rows (pos 5))).plate) ≡ pos 15)
  -- wrap: a wider control goes to the next row, and the plate gets narrower, 640 ticks to 321
  pub wraps : Pair (wrapped (pos 320)) (wrapped (pos 321))
  pub wrapped-narrower : (width (in_ticks 5 (laid (wrapped (pos 320))).plate) ≡ pos 640) × (width (in_ticks 5 (laid (wrapped (pos 321))).plate) ≡ pos 321)
  -- direction 1: a wider control starts further left
  pub right-to-left : Pair (right_to_left (pos 10)) (right_to_left (pos 20))
  pub further-left : (first_left (laid (right_to_left (pos 10))) ≡ pos 6390) × (first_left (laid (right_to_left (pos 20))) ≡ pos 6380)
  -- the clause in hundredths of a millimetre can be met: three controls of 113 beside three of 522; and why both sheets have one unit: a
  -- control of 600 ticks beside one of 635 hundredths, which is 576 ticks
  pub metric-grown : GrownText (metric (pos 0) (pos 32) (three_controls (pos 113))) (metric (pos 0) (pos 32) (three_controls (pos 522)))
  pub mixed-accepted : ((laid (in_tick_units (W (pos 600) (pos 600)))).number ≡ 0) × ((laid (metric (pos 0) (pos 0) (W (pos 635) (pos 635)))).number ≡ 0)
  pub mixed-narrower : (width (in_ticks 5 (laid (in_tick_units (W (pos 600) (pos 600)))).plate) ≡ pos 600) × (width (in_ticks 5 (laid (metric (pos 0) (pos 0) (W (pos 635) (pos 635)))).plate) ≡ pos 576)
  -- the margin can be met, and is reached: three controls of 522 hundredths each, a row end among them and 32 ticks between two, are 951
  -- parts short; three of 113 are as much over
  pub metric-accepted : ((laid (metric (pos 0) (pos 32) (three_controls (pos 522)))).number ≡ 0) × ((laid (metric (pos 0) (pos 32) (three_controls (pos 113)))).number ≡ 0)
  pub metric-strip : Strip (sheet_in (metric (pos 0) (pos 32) (three_controls (pos 522))))
  pub metric-spacing : NoNegativeSpacing (sheet_in (metric (pos 0) (pos 32) (three_controls (pos 522))))
  pub metric-controls : ((sheet_in (metric (pos 0) (pos 32) (three_controls (pos 522)))).heading.unit ≡ Hundredths) × (only_controls (sheet_in (metric (pos 0) (pos 32) (three_controls (pos 522)))).steps ≡ true)
  pub margin-short : plate_part (metric (pos 0) (pos 32) (three_controls (pos 522))) +ℤ pos 951 ≡ field_part (metric (pos 0) (pos 32) (three_controls (pos 522)))
  pub margin-over : plate_part (metric (pos 0) (pos 32) (three_controls (pos 113))) ≡ field_part (metric (pos 0) (pos 32) (three_controls (pos 113))) +ℤ pos 951
  -- and why each condition is there: negative spacing, an S, wrap, a sheet without M
  pub overlap-accepted : (laid (metric (pos 0) (negsuc 9) (W (pos 635) (pos 1) ++ W (pos 0) (pos 1)))).number ≡ 0
  pub overlap-beyond : MarginOf (metric (pos 0) (negsuc 9) (W (pos 635) (pos 1) ++ W (pos 0) (pos 1))) → ⊥
  pub space-beyond : MarginOf (metric (pos 0) (pos 0) (W (pos 635) (pos 1) ++ (S (pos 10) ++ W (pos 635) (pos 1)))) → ⊥
  pub wrap-beyond : MarginOf (metric (pos 1) (pos 0) (W (pos 635) (pos 1) ++ W (pos 635) (pos 1))) → ⊥
  pub ticks-beyond : MarginOf (strip (pos 640) (pos 480)) → ⊥
  -- a first pass with a memory: the second does not give back what it was given, 6 ticks and then 5
  pub unsettled : (rows_of (given across_zero ten_tall) ≡ pos 6 ∷ []) × (rows_of (given_then across_zero ten_tall) ≡ pos 5 ∷ [])

wider : NoSmaller (record { width = pos 113; height = pos 635 }) (record { width = pos 522; height = pos 635 })
wider = record { width = record { le = tt }; height = record { le = tt } }

pub computed : Computed
unfolding rectangles.min_f rectangles.max_f rectangles.translate rectangles.intersect rectangles.union rectangles.extend_with_x rectangles.extend_with_y rectangles.intersects rectangles.centred rectangles.aligned_to rectangles.align_on rectangles.align_within rectangles.round_f rectangles.round_by rectangles.round_rect domain.finite domain.within domain.both_of domain.edges_of domain.negative domain.inside_out refusals.lesser refusals.least refusals.or_else refusals.length_fault refusals.pair_fault refusals.edges_fault refusals.extent_fault refusals.size_fault refusals.rect_fault refusals.outside refusals.answer refusals.or_zeros steps.val directions.is_horizontal layouts.is_right_to_left layouts.is_center layouts.is_max layouts.prefer_right_to_left layouts.placement layouts.horizontal_align layouts.vertical_align layouts.align2 layouts.horizontal_justify layouts.vertical_justify regions.expand_to_include_rect regions.expand_to_include_x regions.expand_to_include_y layout-rules.align_size_within_rect layout-rules.initial_cursor layout-rules.from_cursor layout-rules.not_negative layout-rules.not_negative_rect layout-rules.available_from_cursor_max_rect layout-rules.available_rect_before_wrap layout-rules.available_size layout-rules.overflows layout-rules.new_row layout-rules.new_column layout-rules.new_cursor layout-rules.reaching layout-rules.new_region layout-rules.fills_width layout-rules.fills_height layout-rules.frame_width layout-rules.frame_height layout-rules.frame_align2 layout-rules.moved_down layout-rules.frame_rect layout-rules.next_frame_ignore_wrap layout-rules.wraps layout-rules.next_frame layout-rules.raised layout-rules.justify_and_align layout-rules.next_widget_space_ignore_wrap_justify layout-rules.next_widget_position layout-rules.region_from_max_rect layout-rules.advance_cursor layout-rules.stays_in_row layout-rules.row_started layout-rules.grown_across layout-rules.row_for layout-rules.past_widget layout-rules.advance_after_rects layout-rules.next_row layout-rules.end_row layout-rules.set_row_height layout-refusals.zero_if_open layout-refusals.closed layout-refusals.cursor_fault layout-refusals.region_fault layout-refusals.region_answer layout-refusals.cursor_answer entries.entry entries.cleared entries.raised entries.total_from entries.same_entries entries.entries_fault entries.zeros memories.capped memories.raised_count memories.set_min_col_width memories.set_min_row_height memories.col_width memories.row_height memories.full_width memories.same_memory grids.known_memory grids.new_grid grids.prev_col_width grids.prev_row_height grids.last_width grids.other_width grids.cell_width grids.cell_height grids.available_rect grids.next_width grids.next_cell grids.align_size_within_rect grids.noted grids.advanced grids.advance grids.row_ended grids.end_row grids.save grid-refusals.memory_fault grid-refusals.max_cell_fault grid-refusals.grid_fault grid-refusals.fits_grid grid-refusals.direction_fault grid-refusals.moved_fault grid-refusals.memory_answer grid-refusals.grid_answer grid-refusals.moved_answer grid-refusals.saved_answer grid-refusals.entry_answer grid-operations.checked_set_min_col_width grid-operations.checked_set_min_row_height grid-operations.checked_col_width grid-operations.checked_row_height grid-operations.checked_full_width grid-operations.checked_new grid-operations.checked_prev_col_width grid-operations.checked_prev_row_height grid-operations.checked_available_rect grid-operations.checked_next_cell grid-operations.checked_align_size_within_rect grid-operations.checked_advance grid-operations.checked_end_row grid-operations.checked_save placer-rules.new_placer placer-rules.save_grid placer-rules.force_set_min_rect placer-rules.set_cursor placer-rules.align_size_within_rect placer-rules.available placer-rules.available_rect_before_wrap placer-rules.available_size placer-rules.next_space placer-rules.next_widget_position placer-rules.justify_and_align placer-rules.advance_cursor placer-rules.expand_to_include_rect placer-rules.expand_to_include_x placer-rules.expand_to_include_y placer-rules.moved_past placer-rules.advance_after_rects placer-rules.end_row placer-rules.set_row_height placer-rules.next_widget_space_ignore_wrap_justify placer-rules.limited_across placer-rules.limited_down placer-rules.set_max_width placer-rules.set_max_height placer-rules.grown_across placer-rules.grown_down placer-rules.set_min_width placer-rules.set_min_height placer-refusals.grid_part placer-refusals.placer_fault placer-refusals.advance_fault placer-refusals.end_row_fault placer-refusals.placer_answer placer-refusals.changed_placer placer-operations.checked_new placer-operations.checked_set_grid placer-operations.checked_save_grid placer-operations.checked_force_set_min_rect placer-operations.checked_set_cursor placer-operations.checked_align_size_within_rect placer-operations.checked_available_rect_before_wrap placer-operations.checked_available_size placer-operations.checked_next_space placer-operations.checked_next_widget_position placer-operations.checked_justify_and_align placer-operations.checked_advance_cursor placer-operations.checked_advance_after_rects placer-operations.checked_end_row placer-operations.checked_set_row_height placer-operations.checked_expand_to_include_rect placer-operations.checked_expand_to_include_x placer-operations.checked_expand_to_include_y placer-operations.checked_next_widget_space_ignore_wrap_justify placer-operations.checked_set_max_width placer-operations.checked_set_max_height placer-operations.checked_set_min_width placer-operations.checked_set_min_height fields.column fields.columns fields.has_text fields.grow fields.digits_from fields.same fields.blank fields.number_of fields.field fields.field_at fields.written_at lines.texts lines.have_texts lines.line lines.line_at parts.ends parts.points parts.length_in parts.is_length parts.length_value parts.measured parts.size_in units.nearest units.from_hundredths units.in_steps parts.is_maximum parts.maximum_value parts.count_in parts.is_count parts.natural parts.count_value records.pair_fits records.pair_in records.direction_of records.align_of records.layout_fits records.layout_in records.rect_in records.heading_fits records.maxima_fit records.maxima_in records.is_columns records.options_in records.grid_fits records.step_record records.widget_record records.single_record records.record_of records.record_at records.field_count records.next_at sheets.records_from sheets.after sheets.wrong_from sheets.misplaced sheets.widget_step sheets.widget sheets.widgets sheets.sheet_fault sheets.checked conversions.total sheet-controls.only_controls sheet-controls.number_in sheet-controls.size_of sheet-controls.sizes_from pass-rules.widget_fault pass-rules.widget_step pass-rules.stepped pass-rules.followed pass-rules.run_from pass-rules.headed pass-rules.grid_of pass-rules.grid_set pass-rules.around pass-rules.plate_of pass-rules.remembered pass-rules.outcome_of pass-rules.begun pass-rules.ran_with pass-rules.pass passes-rules.passes slices.laid slices.after_check slices.written lists.printed lists.settled_from lists.settled lists.widget_lines lists.entry_lines lists.memory_lines lists.accepted_lines lists.refusal_line lists.outcome_lines lists.answered lists.list_of texts.steps_of headings.stands headings.past headings.has_unit headings.unit_in headings.has_grid_lem headings.unit_fits headings.options_fit headings.heading_in headings.heading_fault ieee.span ieee.climb ieee.size ieee.odd ieee.units ieee.round ieee.neg ieee.sum ieee.add ieee.sub ieee.mul ieee.div ieee.lt ieee.eq ieee.le ieee.of_int ieee.to_unsigned ieee.to_signed ieee.of_fields ieee.of_bits ieee.ne cases.times cases.same_all cases.twice_each cases.all_hold
computed = record {
  cases-hold-all = refl;
  strips = record { first = refl; second = refl; grown = record { heading = refl; steps = Grown.control refl refl (Grown.control refl refl Grown.none) } };
  is-strip = record { align = Center; is = refl; no-grid = refl };
  strip-spacing = record { across = refl; down = refl };
  grids = record { passes-of-first = (refl, refl); passes-of-second = (refl, refl); grown = record { heading = refl; steps = Grown.control refl refl (Grown.control refl refl (Grown.row_end (Grown.control refl refl Grown.none))) } };
  is-grid = refl;
  grid-spacing = record { across = refl; down = refl };
  strip-overlaps = record { first = refl; second = refl; grown = record { heading = refl; steps = Grown.control refl refl (Grown.control refl refl (Grown.control refl refl Grown.none)) } };
  strip-narrower = (refl, refl);
  rows-overlap = record { passes-of-first = (refl, refl); passes-of-second = (refl, refl); grown = record { heading = refl; steps = Grown.control refl refl (Grown.row_end (Grown.control refl refl (Grown.row_end (Grown.control refl refl Grown.none)))) } };
  grid-less-tall = (refl, refl);
  wraps = record { first = refl; second = refl; grown = record { heading = refl; steps = Grown.control refl refl (Grown.control refl refl Grown.none) } };
  wrapped-narrower = (refl, refl);
  right-to-left = record { first = refl; second = refl; grown = record { heading = refl; steps = Grown.control refl refl Grown.none } };
  further-left = (refl, refl);
  metric-grown = record {
    heading = refl;
    records = Alike.control (Alike.row_end (Alike.control (Alike.control Alike.none)));
    sizes = Forall₂.cons wider (Forall₂.cons wider (Forall₂.cons wider Forall₂.nil));
  };
  mixed-accepted = (refl, refl);
  mixed-narrower = (refl, refl);
  metric-accepted = (refl, refl);
  metric-strip = record { align = Min; is = refl; no-grid = refl };
  metric-spacing = record { across = refl; down = refl };
  metric-controls = (refl, refl);
  margin-short = refl;
  margin-over = refl;
  overlap-accepted = refl;
  overlap-beyond = λ m. m.over.le;
  space-beyond = λ m. m.over.le;
  wrap-beyond = λ m. m.under.le;
  ticks-beyond = λ m. m.over.le;
  unsettled = (refl, refl);
}

-- ---- the cases of RULES 9, as one equation over the table
pub cases-hold : map (λ (c : Case). c.found) table ≡ map (λ (c : Case). c.expected) table
cases-hold = found-as-expected table computed.cases-hold-all

-- ---- the clause applied
pub strip-clause : NoLess 5 (laid (strip (pos 640) (pos 480))) (laid (strip (pos 700) (pos 500)))
strip-clause =
    price-clause.strips (sheet_in (strip (pos 640) (pos 480))) (sheet_in (strip (pos 700) (pos 500))) (record { text = strip (pos 640) (pos 480); is = refl }) (record { text = strip (pos 700) (pos 500); is = refl })
    computed.strips.grown computed.is-strip computed.strip-spacing false false empty_memory empty_memory true true computed.strips.first computed.strips.second

pub grid-clause : NoLess 5 (settled (cells (pos 640) (pos 161))) (settled (cells (pos 650) (pos 170)))
grid-clause =
    price-clause.grids (sheet_in (cells (pos 640) (pos 161))) (sheet_in (cells (pos 650) (pos 170))) (record { text = cells (pos 640) (pos 161); is = refl }) (record { text = cells (pos 650) (pos 170); is = refl })
    computed.grids.grown computed.is-grid computed.grid-spacing empty_memory empty_memory computed.grids.passes-of-first.0 computed.grids.passes-of-first.1 computed.grids.passes-of-second.0 computed.grids.passes-of-second.1
