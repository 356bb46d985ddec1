-- RULES 8.14, computed: what is asked of the arguments can be met, and both answers come; the size has to be a number, and not negative,
-- and the edges f32; and a frame that 9 turns away may be neither inside out nor upright. Assumes nothing.
use mathlib.Core.Path.{◌≡◌, refl}
use mathlib.Core.Bool.{true, false}
use lib.IntN.{pos, negsuc}
use lib.Ieee.{Float, nan, inf, fin, binary32, of_bits, up, down, round, sum, neg, add, sub, mul, div, lt, le, eq, ne, below, level, fits}
use Rattle.emath.specs.Rectangles as rectangles
use Rattle.emath.specs.Rectangles.{zero_f}
use Rattle.emath.specs.Domain as domain
use Rattle.emath.specs.Domain.{inside_out, upright}
use Rattle.emath.specs.Binary32.{F32, RectF32}
use Rattle.emath.specs.Refusals as refusals
use Rattle.emath.specs.Refusals.{size_fault, rect_fault}
use Rattle.emath.specs.Steps.{tick}
use Rattle.region.specs.Directions as directions
use Rattle.region.specs.Regions.{zero_vec}
use Rattle.region.specs.Binary32.{RegionF32}
use Rattle.region.specs.Refusals as region-refusals
use Rattle.region.specs.Refusals.{region_fault}
use Rattle.region.specs.Operations as region-calls
use Rattle.grid.specs.Entries.{entries_fault}
use Rattle.grid.specs.Grids.{empty_grid}
use Rattle.grid.specs.Refusals as grid-refusals
use Rattle.placer.specs.Refusals.{grid_part, placer_fault}
use Rattle.layout.specs.Layouts as layouts
use Rattle.layout.specs.Layouts.{plain}
use Rattle.layout.specs.Rules as layout-rules
use Rattle.layout.specs.Rules.{next_frame_ignore_wrap}
use Rattle.layout.specs.Operations.{next_frame_ignore_wrap_number}
use Rattle.emath.specs.declared.Rect.{Rect}
use Rattle.emath.specs.declared.Vec2.{Vec2}
use Rattle.emath.specs.declared.Align.TheVariants.{Min, Max}
use Rattle.region.specs.declared.Direction.{Direction}
use Rattle.region.specs.declared.Direction.TheVariants.{LeftToRight, RightToLeft}
use Rattle.region.specs.declared.Region.{Region}
use Rattle.layout.specs.declared.Layout.{Layout}
use Rattle.placer.specs.declared.Placer.{Placer}

-- ---- the cases
-- a region that is the point (x, 0)
abbrev at : Float → Rect
at x = record { left = x; top = zero_f; right = x; bottom = zero_f }

abbrev pub point_at : Float → Region
point_at x = record { min_rect = at x; max_rect = at x; cursor = at x }

-- so wide, and of no height
abbrev pub wide : Float → Vec2
wide w = record { x = w; y = zero_f }

-- the domain's limit, 1 and -1
abbrev furthest : Float
furthest = fin false 1 (pos 16)

abbrev one : Float
one = fin false 1 (pos 0)

abbrev minus_one : Float
minus_one = fin true 1 (pos 0)

-- 5 / 2 ^ 151: between the least f32 above zero and the next one
abbrev pub between : Float
between = fin false 5 (negsuc 150)

-- rows of a wrapped, justified layout
abbrev row : Direction → Layout
row d = record { main_dir = d; main_wrap = true; main_align = Max; main_justify = true; cross_align = Min; cross_justify = false }

-- a cursor from 1 back to 0
abbrev pub turned : Region
turned = record { min_rect = at zero_f; max_rect = at zero_f; cursor = record { left = one; top = zero_f; right = zero_f; bottom = zero_f } }

-- a row without end to the left, one point below max_rect
abbrev pub endless : Region
endless = record { min_rect = at zero_f; max_rect = at zero_f; cursor = record { left = inf true; top = one; right = zero_f; bottom = one } }

-- a placer with a grid there
abbrev pub grid_placer : Placer
grid_placer = record { has_grid = true; grid = empty_grid; layout = plain LeftToRight Min; region = point_at furthest }

-- ---- what they show
pub record FrameCases : Type 0 where
  -- arguments without a fault, and f32, for each crate's calls: a frame is accepted, and one that reaches beyond the limit gets 9
  pub met : (region_fault LeftToRight (point_at furthest) ≡ 0) × (size_fault (wide one) ≡ 0) × RegionF32 (point_at furthest)
  pub met-placer : (placer_fault grid_placer ≡ 0) × (rect_fault (at furthest) ≡ 0)
  pub accepted : next_frame_ignore_wrap_number tick (plain LeftToRight Min) (point_at furthest) zero_vec ≡ 0
  pub refused : next_frame_ignore_wrap_number tick (plain LeftToRight Min) (point_at furthest) (wide one) ≡ 9
  -- a negative width
  pub negative : inside_out (next_frame_ignore_wrap tick (plain LeftToRight Min) (point_at zero_f) (wide minus_one)) ≡ true
  -- a width that is no number: the cursor's is taken, which is below zero
  pub not-a-number : inside_out (next_frame_ignore_wrap tick (row LeftToRight) turned (wide nan)) ≡ true
  -- an edge that no f32 holds: 0 added to it is less than it, and a step of 1 / 2 ^ 150 tells them apart
  pub not-f32 : inside_out (next_frame_ignore_wrap 150 (plain LeftToRight Min) (point_at between) zero_vec) ≡ true
  pub no-f32 : fits binary32 between ≡ false
  -- moved down, a frame without end has a NaN for its right edge
  pub neither : (inside_out (next_frame_ignore_wrap tick (row RightToLeft) endless zero_vec) ≡ false) × (upright (next_frame_ignore_wrap tick (row RightToLeft) endless zero_vec) ≡ false)
  pub nine : next_frame_ignore_wrap_number tick (row RightToLeft) endless zero_vec ≡ 9

furthest-f32 : RectF32 (at furthest)
unfolding of_bits fits
furthest-f32 = let f : F32 furthest = record { holds = tt } in let z : F32 zero_f = record { holds = tt } in record { left = f; top = z; right = f; bottom = z }

pub frame-cases : FrameCases
unfolding rectangles.min_f rectangles.max_f rectangles.translate rectangles.intersect rectangles.centred rectangles.aligned_to rectangles.align_on rectangles.align_within rectangles.round_f rectangles.round_by rectangles.round_rect domain.finite domain.within domain.both_of domain.edges_of domain.negative domain.inside_out domain.upright refusals.lesser refusals.least refusals.or_else refusals.pair_fault refusals.edges_fault refusals.size_fault refusals.rect_fault refusals.outside directions.is_horizontal region-refusals.zero_if_open region-refusals.closed region-refusals.cursor_fault region-refusals.region_fault region-calls.placed_number layouts.horizontal_align layouts.vertical_align layouts.align2 layouts.horizontal_justify layouts.vertical_justify layouts.is_center layout-rules.from_cursor layout-rules.not_negative layout-rules.not_negative_rect layout-rules.available_from_cursor_max_rect layout-rules.available_rect_before_wrap layout-rules.fills_width layout-rules.fills_height layout-rules.frame_width layout-rules.frame_height layout-rules.frame_align2 layout-rules.moved_down layout-rules.frame_rect layout-rules.next_frame_ignore_wrap next_frame_ignore_wrap_number entries_fault grid-refusals.memory_fault grid-refusals.max_cell_fault grid-refusals.grid_fault grid-refusals.fits_grid grid-refusals.direction_fault grid_part placer_fault of_bits up down round sum neg add sub mul div lt le eq ne below level fits
frame-cases = record {
  met = (refl, refl, record { inner = furthest-f32; outer = furthest-f32; cursor = furthest-f32 });
  met-placer = (refl, refl);
  accepted = refl;
  refused = refl;
  negative = refl;
  not-a-number = refl;
  not-f32 = refl;
  no-f32 = refl;
  neither = (refl, refl);
  nine = refl;
}
