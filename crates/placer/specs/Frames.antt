-- RULES 8.14: no frame is inside out, and no widget in a frame. Of every step of 1 / 2 ^ k point; edges are f32, as all in the code are.
use Rattle.std.specs.Prelude.{ℕ, ◌≡◌, ◌⊎◌, false, T}
use Rattle.emath.specs.Domain.{at_least_zero, inside_out, upright}
use Rattle.emath.specs.Binary32.{F32, RectF32}
use Rattle.emath.specs.Numbers as number
use Rattle.emath.specs.Refusals.{pair_fault, size_fault, edges_fault, rect_fault, outside}
use Rattle.region.specs.Binary32.{RegionF32}
use Rattle.region.specs.Refusals.{cursor_fault, region_fault}
use Rattle.layout.specs.Rules as layout-rules
use Rattle.layout.specs.Operations as layout-calls
use Rattle.grid.specs.Grids as grid-rules
use Rattle.grid.specs.Refusals.{grid_fault, direction_fault}
use Rattle.grid.specs.Operations as grid-calls
use Rattle.placer.specs.Rules.{next_space, justify_and_align}
use Rattle.placer.specs.Refusals.{placer_fault}
use Rattle.placer.specs.Operations.{next_space_number, justify_and_align_number}
use Rattle.emath.specs.declared.Rect.{Rect}
use Rattle.emath.specs.declared.Vec2.{Vec2}
use Rattle.region.specs.declared.Direction.{Direction}
use Rattle.region.specs.declared.Region.{Region}
use Rattle.layout.specs.declared.Layout.{Layout}
use Rattle.grid.specs.declared.GridLayout.{GridLayout}
use Rattle.placer.specs.declared.Placer.{Placer}

-- ---- RULES 8.14, as it was asked: of arguments without a fault, so of a size that is not negative
-- upright, or the call's number is 9
abbrev pub UprightOr9 : ℕ → Rect → Type 0
UprightOr9 n r = T (upright r) ⊎ (n ≡ number.outside)

pub record FramesUpright : Type 0 where
  pub next_frame : (k : ℕ) (l : Layout) (g : Region) (s sp : Vec2) → RegionF32 g → region_fault l.main_dir g ≡ 0 → size_fault s ≡ 0 → pair_fault sp.x sp.y ≡ 0
      → UprightOr9 (layout-calls.next_frame_number k l g s sp) (layout-rules.next_frame k l g s sp)
  pub next_frame_ignore_wrap : (k : ℕ) (l : Layout) (g : Region) (s : Vec2) → RegionF32 g → region_fault l.main_dir g ≡ 0 → size_fault s ≡ 0
      → UprightOr9 (layout-calls.next_frame_ignore_wrap_number k l g s) (layout-rules.next_frame_ignore_wrap k l g s)
  pub next_cell : (k : ℕ) (g : GridLayout) (d : Direction) (c : Rect) (s : Vec2) → RectF32 c → grid_fault g ≡ 0 → cursor_fault d c ≡ 0 → size_fault s ≡ 0 → direction_fault d ≡ 0
      → UprightOr9 (grid-calls.next_cell_number k g d c s) (grid-rules.next_cell k g c s)
  pub next_space : (k : ℕ) (p : Placer) (s sp : Vec2) → RegionF32 p.region → placer_fault p ≡ 0 → size_fault s ≡ 0 → pair_fault sp.x sp.y ≡ 0
      → UprightOr9 (next_space_number k p s sp) (next_space k p s sp)
  -- the widget, in a frame that is accepted
  pub justify_and_align : (k : ℕ) (p : Placer) (f : Rect) (s : Vec2) → RectF32 f → placer_fault p ≡ 0 → rect_fault f ≡ 0 → size_fault s ≡ 0
      → UprightOr9 (justify_and_align_number k p f s) (justify_and_align k p f s)

-- ---- RULES 8.14: all that it needs. There is no limit, and nothing is asked of min_rect, the spacing or what is remembered.
-- never inside out; and upright where 9 does not apply
pub record NotInsideOut (r : Rect) : Type 0 where
  pub never : inside_out r ≡ false
  pub unless9 : outside (edges_fault r) ≡ 0 → T (upright r)

pub record NoneInsideOut : Type 0 where
  pub next_frame : (k : ℕ) (l : Layout) (g : Region) (s sp : Vec2) → RectF32 g.max_rect → RectF32 g.cursor → T (at_least_zero s) → NotInsideOut (layout-rules.next_frame k l g s sp)
  pub next_frame_ignore_wrap : (k : ℕ) (l : Layout) (g : Region) (s : Vec2) → RectF32 g.max_rect → RectF32 g.cursor → T (at_least_zero s) → NotInsideOut (layout-rules.next_frame_ignore_wrap k l g s)
  pub next_cell : (k : ℕ) (g : GridLayout) (c : Rect) (s : Vec2) → F32 c.left → F32 c.top → T (at_least_zero s) → NotInsideOut (grid-rules.next_cell k g c s)
  pub next_space : (k : ℕ) (p : Placer) (s sp : Vec2) → RectF32 p.region.max_rect → RectF32 p.region.cursor → T (at_least_zero s) → NotInsideOut (next_space k p s sp)
  pub justify_and_align : (k : ℕ) (p : Placer) (f : Rect) (s : Vec2) → RectF32 f → T (at_least_zero s) → NotInsideOut (justify_and_align k p f s)
