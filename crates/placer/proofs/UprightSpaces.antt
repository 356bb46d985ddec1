-- RULES 8.14: no frame is inside out, and no widget in a frame; as it was asked, and with what that needs. Assumes nothing.
use Prim.Native.Nat.{ℕ}
use mathlib.Core.Path.{◌≡◌, refl}
use mathlib.Core.Logic.{inl, inr}
use mathlib.Core.Bool.{Bool, true, false, cond}
use mathlib.Core.List.{[]}
use lib.Dec.{T, eqb}
use Rattle.emath.specs.Domain.{at_least_zero, inside_out}
use Rattle.emath.specs.Binary32.{F32, RectF32}
use Rattle.emath.specs.Refusals.{least, or_else, pair_fault, size_fault, edges_fault, rect_fault, outside}
use Rattle.emath.proofs.Binary32.{rounded-f32}
use Rattle.emath.proofs.Refusals.{least-none, outside-some, outside-none}
use Rattle.emath.proofs.Upright.{size-at-least-zero, upright-within}
use Rattle.region.specs.Binary32.{RegionF32}
use Rattle.region.specs.Refusals.{cursor_fault, region_fault}
use Rattle.region.specs.Operations.{placed_number}
use Rattle.layout.specs.Rules as layout-rules
use Rattle.layout.specs.Operations as layout-calls
use Rattle.layout.proofs.UprightFrames as frames
use Rattle.grid.specs.Grids as grid-rules
use Rattle.grid.specs.Refusals.{grid_fault, direction_fault}
use Rattle.grid.specs.Operations as grid-calls
use Rattle.grid.proofs.UprightCells as cells
use Rattle.placer.specs.Rules.{next_space, justify_and_align}
use Rattle.placer.specs.Refusals.{placer_fault}
use Rattle.placer.specs.Operations.{next_space_number, justify_and_align_number}
use Rattle.placer.specs.Frames.{UprightOr9, FramesUpright, NotInsideOut, NoneInsideOut}
use Rattle.emath.specs.declared.Rect.{Rect}
use Rattle.emath.specs.declared.Vec2.{Vec2}
use Rattle.region.specs.declared.Direction.{Direction}
use Rattle.region.specs.declared.Region.{Region}
use Rattle.layout.specs.declared.Layout.{Layout}
use Rattle.grid.specs.declared.GridLayout.{GridLayout}
use Rattle.placer.specs.declared.Placer.{Placer}

-- ---- the placer's calls are the grid's or the layout's
pub next-space-upright : (k : ℕ) (p : Placer) (s sp : Vec2) → RectF32 p.region.max_rect → RectF32 p.region.cursor → T (at_least_zero s) → inside_out (next_space k p s sp) ≡ false
unfolding next_space
next-space-upright k p s sp m c h = go p.has_grid
  where
    go : (b : Bool) → inside_out (cond b (grid-rules.next_cell k p.grid p.region.cursor s) (layout-rules.next_frame k p.layout p.region s sp)) ≡ false
    go true = cells.next-cell-upright k p.grid p.region.cursor s c.left c.top h
    go false = frames.next-frame-upright k p.layout p.region s sp m c h

-- its edges are f32, being rounded
pub next-space-f32 : (k : ℕ) (p : Placer) (s sp : Vec2) → RectF32 (next_space k p s sp)
unfolding next_space grid-rules.next_cell layout-rules.next_frame layout-rules.next_frame_ignore_wrap
next-space-f32 k p s sp = go p.has_grid
  where
    go : (b : Bool) → RectF32 (cond b (grid-rules.next_cell k p.grid p.region.cursor s) (layout-rules.next_frame k p.layout p.region s sp))
    go true = rounded-f32 k _
    go false = rounded-f32 k _

pub justify-and-align-upright : (k : ℕ) (p : Placer) (f : Rect) (s : Vec2) → RectF32 f → T (at_least_zero s) → inside_out (justify_and_align k p f s) ≡ false
unfolding justify_and_align
justify-and-align-upright k p f s e h = go p.has_grid
  where
    go : (b : Bool) → inside_out (cond b (grid-rules.align_size_within_rect k s f) (layout-rules.justify_and_align k p.layout f s)) ≡ false
    go true = cells.widget-upright k s f e h
    go false = frames.widget-upright k p.layout f s e h

-- ---- with what it needs
not-inside-out : (r : Rect) → inside_out r ≡ false → NotInsideOut r
not-inside-out r h = record { never = h; unless9 = λ (n : outside (edges_fault r) ≡ 0). upright-within r h (outside-none (edges_fault r) n) }

pub none-inside-out : NoneInsideOut
none-inside-out = record {
  next_frame = λ (k : ℕ) (l : Layout) (g : Region) (s sp : Vec2) (m : RectF32 g.max_rect) (c : RectF32 g.cursor) (h : T (at_least_zero s)). not-inside-out (layout-rules.next_frame k l g s sp) (frames.next-frame-upright k l g s sp m c h);
  next_frame_ignore_wrap = λ (k : ℕ) (l : Layout) (g : Region) (s : Vec2) (m : RectF32 g.max_rect) (c : RectF32 g.cursor) (h : T (at_least_zero s)). not-inside-out (layout-rules.next_frame_ignore_wrap k l g s) (frames.ignore-wrap-upright k l g s m c h);
  next_cell = λ (k : ℕ) (g : GridLayout) (c : Rect) (s : Vec2) (x : F32 c.left) (y : F32 c.top) (h : T (at_least_zero s)). not-inside-out (grid-rules.next_cell k g c s) (cells.next-cell-upright k g c s x y h);
  next_space = λ (k : ℕ) (p : Placer) (s sp : Vec2) (m : RectF32 p.region.max_rect) (c : RectF32 p.region.cursor) (h : T (at_least_zero s)). not-inside-out (next_space k p s sp) (next-space-upright k p s sp m c h);
  justify_and_align = λ (k : ℕ) (p : Placer) (f : Rect) (s : Vec2) (e : RectF32 f) (h : T (at_least_zero s)). not-inside-out (justify_and_align k p f s) (justify-and-align-upright k p f s e h);
}

-- ---- as it was asked: arguments without a fault leave the answer's number, 0 or 9
asked : (before : ℕ) (r : Rect) → before ≡ 0 → NotInsideOut r → UprightOr9 (placed_number before r) r
unfolding placed_number or_else
asked before r e h = go (eqb (edges_fault r) 0) refl
  where
    go : (b : Bool) → eqb (edges_fault r) 0 ≡ b → UprightOr9 (cond (eqb before 0) (outside (edges_fault r)) before) r
    go true z = inl (h.unless9 (unfold outside in rw z))
    go false z = inr (rw (e, outside-some (edges_fault r) z))

none : least [] ≡ 0
unfolding least
none = refl

pub frames-upright : FramesUpright
unfolding layout-calls.next_frame_number layout-calls.next_frame_ignore_wrap_number grid-calls.next_cell_number next_space_number justify_and_align_number
frames-upright = record {
  next_frame = λ (k : ℕ) (l : Layout) (g : Region) (s sp : Vec2) (f : RegionF32 g) (a : region_fault l.main_dir g ≡ 0) (b : size_fault s ≡ 0) (c : pair_fault sp.x sp.y ≡ 0).
      asked _ _ (least-none _ _ a (least-none _ _ b (least-none _ [] c none))) (none-inside-out.next_frame k l g s sp f.outer f.cursor (size-at-least-zero s b));
  next_frame_ignore_wrap = λ (k : ℕ) (l : Layout) (g : Region) (s : Vec2) (f : RegionF32 g) (a : region_fault l.main_dir g ≡ 0) (b : size_fault s ≡ 0).
      asked _ _ (least-none _ _ a (least-none _ [] b none)) (none-inside-out.next_frame_ignore_wrap k l g s f.outer f.cursor (size-at-least-zero s b));
  next_cell = λ (k : ℕ) (g : GridLayout) (d : Direction) (c : Rect) (s : Vec2) (f : RectF32 c) (a : grid_fault g ≡ 0) (b : cursor_fault d c ≡ 0) (e : size_fault s ≡ 0) (i : direction_fault d ≡ 0).
      asked _ _ (least-none _ _ a (least-none _ _ b (least-none _ _ e (least-none _ [] i none)))) (none-inside-out.next_cell k g c s f.left f.top (size-at-least-zero s e));
  next_space = λ (k : ℕ) (p : Placer) (s sp : Vec2) (f : RegionF32 p.region) (a : placer_fault p ≡ 0) (b : size_fault s ≡ 0) (c : pair_fault sp.x sp.y ≡ 0).
      asked _ _ (least-none _ _ a (least-none _ _ b (least-none _ [] c none))) (none-inside-out.next_space k p s sp f.outer f.cursor (size-at-least-zero s b));
  justify_and_align = λ (k : ℕ) (p : Placer) (f : Rect) (s : Vec2) (e : RectF32 f) (a : placer_fault p ≡ 0) (b : rect_fault f ≡ 0) (c : size_fault s ≡ 0).
      asked _ _ (least-none _ _ a (least-none _ _ b (least-none _ [] c none))) (none-inside-out.justify_and_align k p f s e (size-at-least-zero s c));
}
