-- Every edge of every rectangle of a pass is a whole step of the domain: the frames and widgets of the W before a fault, or of all, in any
-- state; and the plate, refused or not, whatever the sheet's lengths are. With a W an accepted pass's plate is the smallest rectangle around
-- its frames. For steps of 1 to 1/128 point. Assumes nothing.
use Prim.Native.Nat.{ℕ, ◌≤◌, ◌<◌}
use mathlib.Core.Path.{◌≡◌, refl, sym, ◌∙◌, subst}
use mathlib.Core.Bool.{Bool}
use mathlib.Core.List.{List, [], ◌∷◌}
use native.Mathlib.Omega.{arith}
use lib.ListN.{length}
use Rattle.emath.specs.declared.Vec2.{Vec2}
use Rattle.region.specs.Refusals.{zero_rect}
use Rattle.region.specs.Steps.{WholeRect}
use Rattle.grid.specs.declared.Memory.{Memory}
use Rattle.placer.specs.declared.Placer.{Placer}
use Rattle.records.specs.declared.Step.{Step}
use Rattle.sheet.specs.Pass.{Sheet, Cell, cell_of, widget_step, plate_of, pass}
use Rattle.sheet.specs.Slices.{controls}
use Rattle.sheet.specs.Ticks.{in_ticks}
use Rattle.sheet.proofs.Runs.{widget-placed}
use Rattle.sheet.proofs.Passes.{Ended, well, badly, outcome-ends, pass-plate}
use Rattle.sheet.proofs.PlacedCells.{WholeCell, cell-whole}
use Rattle.sheet.proofs.Plates.{zero-rect}
use Rattle.sheet.proofs.Slices.{pass-few}
use Rattle.sheet.proofs.Shown.{pass_all}
use Rattle.pass_laws.specs.EachCell.{EachCell, none, more}
use Rattle.pass_laws.specs.Plates.{Smallest}
use Rattle.pass_laws.specs.WholeCells.{WholeCells}
use Rattle.pass_laws.proofs.CellRuns.{pass-each}
use Rattle.pass_laws.proofs.SmallestPlates.{plate-whole, smallest}

-- ---- frames and widgets
cells_whole : {k : ℕ} {cs : List Cell} → EachCell (WholeCell k) cs → WholeCells k cs
cells_whole none = WholeCells.none
cells_whole (more w rest) = WholeCells.more w.frame w.widget (cells_whole rest)

-- the W before a fault, or all of them, from any placer
pub pass-cells : (k : ℕ) → k ≤ 7 → (s : Sheet) (known : Bool) (m : Memory) (sizing : Bool) → WholeCells k (pass k s known m sizing).cells
pass-cells k l s known m sizing =
    cells_whole (pass-each k s known m sizing (WholeCell k) (λ (p : Placer). Unit {0})
    (λ (p : Placer) (z : Vec2) (i : Unit {0}) (n : (widget_step s.heading.spacing p z (cell_of k s.heading.spacing p z)).number ≡ 0). cell-whole k l s.heading.spacing p z (widget-placed s.heading.spacing p z (cell_of k s.heading.spacing p z) n))
    (λ (p : Placer) (st : Step) (i : Unit {0}). tt) tt tt)

-- ---- the pass
pub record WholePass (k : ℕ) (s : Sheet) (known : Bool) (m : Memory) (sizing : Bool) : Type 0 where
  pub cells : WholeCells k (pass k s known m sizing).cells
  pub plate : WholeRect k (pass k s known m sizing).plate

module _ (k : ℕ) (l : k ≤ 7) (s : Sheet) (known : Bool) (m : Memory) (sizing : Bool) where
  -- the plate is that of the frames, or of zeros
  pass-plate-whole : WholeRect k (pass k s known m sizing).plate
  unfolding pass
  pass-plate-whole = go (outcome-ends _ m _)
    where
      go : Ended (pass k s known m sizing) → WholeRect k (pass k s known m sizing).plate
      go (well z a e) = subst (WholeRect k) (sym e) (plate-whole k l (pass-cells k l s known m sizing))
      go (badly n e) = subst (WholeRect k) (sym e) (zero-rect k)

  pub whole-pass : WholePass k s known m sizing
  whole-pass = record { cells = pass-cells k l s known m sizing; plate = pass-plate-whole }

  -- and of an accepted pass with a W it is the smallest rectangle around the frames
  pub plate-is-smallest : (pass k s known m sizing).number ≡ 0 → 0 < controls s.steps → Smallest k (in_ticks k (pass k s known m sizing).plate) (pass k s known m sizing).cells
  plate-is-smallest h some =
      rw (pass-plate k s known m sizing h) (smallest k l (pass-cells k l s known m sizing) (omega (arith, some, pass_all k s known m sizing h)))

-- without a W it is all zero
pub no-control : (k : ℕ) (s : Sheet) (known : Bool) (m : Memory) (sizing : Bool) → controls s.steps ≡ 0 → (pass k s known m sizing).plate ≡ zero_rect
unfolding pass plate_of
no-control k s known m sizing zero = go (outcome-ends _ m _) (pass-few k s known m sizing)
  where
    of_none : (cs : List Cell) → length cs ≤ 0 → plate_of cs ≡ zero_rect
    of_none [] h = refl
    of_none (c ∷ cs) h = absurd (omega arith)

    go : Ended (pass k s known m sizing) → length (pass k s known m sizing).cells ≤ controls s.steps → (pass k s known m sizing).plate ≡ zero_rect
    go (well z a e) few = e ∙ of_none (pass k s known m sizing).cells (omega (arith, few, zero))
    go (badly n e) few = e
