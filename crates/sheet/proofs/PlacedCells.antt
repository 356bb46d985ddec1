-- The frame and the widget of a W that is not refused have their edges on whole steps of the domain, in any state. For steps of 1 to 1/128
-- point. Assumes nothing.
use Prim.Native.Nat.{ℕ, ◌≤◌}
use mathlib.Core.Path.{◌≡◌, refl}
use mathlib.Core.Bool.{Bool, true, false}
use Rattle.emath.specs.Refusals.{edges_fault}
use Rattle.emath.specs.declared.Rect.{Rect}
use Rattle.emath.specs.declared.Vec2.{Vec2}
use Rattle.region.specs.Steps.{WholeRect}
use Rattle.layout.proofs.WholeFrames.{next-frame-whole, justify-and-align-whole}
use Rattle.grid.proofs.Cells.{next-cell-whole, align-size-within-rect-whole}
use Rattle.placer.specs.Rules.{next_space, justify_and_align}
use Rattle.placer.specs.declared.Placer.{Placer}
use Rattle.sheet.specs.Pass.{Cell, cell_of}
use Rattle.sheet.proofs.Runs.{Placed}

pub record WholeCell (k : ℕ) (c : Cell) : Type 0 where
  pub frame : WholeRect k c.frame
  pub widget : WholeRect k c.widget

module _ (k : ℕ) (l : k ≤ 7) where
  frame-by : (b : Bool) (p : Placer) (s sp : Vec2) → p.has_grid ≡ b → edges_fault (next_space k p s sp) ≡ 0 → WholeRect k (next_space k p s sp)
  unfolding next_space
  frame-by true p s sp g h = rw g (next-cell-whole k l p.grid p.region.cursor s (rw g at h))
  frame-by false p s sp g h = rw g (next-frame-whole k l p.layout p.region s sp (rw g at h))

  widget-by : (b : Bool) (p : Placer) (f : Rect) (s : Vec2) → p.has_grid ≡ b → edges_fault (justify_and_align k p f s) ≡ 0 → WholeRect k (justify_and_align k p f s)
  unfolding justify_and_align
  widget-by true p f s g h = rw g (align-size-within-rect-whole k l s f (rw g at h))
  widget-by false p f s g h = rw g (justify-and-align-whole k l p.layout f s (rw g at h))

  pub cell-whole : (sp : Vec2) (p : Placer) (s : Vec2) → Placed sp p s (cell_of k sp p s) → WholeCell k (cell_of k sp p s)
  cell-whole sp p s a = record { frame = frame-by p.has_grid p s sp refl a.frame; widget = widget-by p.has_grid p _ s refl a.widget }
