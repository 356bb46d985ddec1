-- RULES 10.9: in an accepted pass of a grid sheet in whole steps the cursor's top is on a whole step at each W, whatever records there are,
-- K included, and whatever memory the pass was given. For steps of 1 to 1/64 point. Assumes nothing.
use Prim.Native.Nat.{ℕ, ◌+◌, ◌≤◌}
use mathlib.Core.Path.{◌≡◌, sym, subst}
use mathlib.Core.Bool.{Bool, true}
use mathlib.Core.List.{List, [], ◌∷◌}
use lib.Ieee.{Float}
use Rattle.emath.specs.declared.Vec2.{Vec2}
use Rattle.grid.specs.declared.Memory.{Memory}
use Rattle.placer.specs.declared.Placer.{Placer}
use Rattle.records.specs.declared.Step.{Step}
use Rattle.records.specs.declared.Step.TheVariants.{Widget, Space, RowHeight, MaxWidth, MaxHeight, MinWidth, MinHeight, RowEnd}
use Rattle.sheet.specs.Pass.{Sheet, stepped, run_from, pass}
use Rattle.pass_laws.specs.WholeSheets.{WholeSheet}
use Rattle.pass_laws.specs.Tops.{FindsTops, TopsOnSteps, NoK}
use Rattle.sheet.proofs.Runs.{run-goes}
use Rattle.sheet.proofs.Passes.{GridPass, grid-pass, grid_start}
use Rattle.pass_laws.proofs.GridMoves.{grid-cell, Other}
use Rattle.pass_laws.proofs.GridTops.{OnSteps, control-on-steps, row-on-steps, other-on-steps}
use Rattle.pass_laws.proofs.FurtherPasses.{begins-on-steps}

module _ (k : ℕ) (l : k ≤ 6) (sp : Vec2) where
  -- ---- what holds of the placer after a record
  control-on : (p : Placer) (w h : Float) → OnSteps k p → (stepped k sp p (Widget w h)).number ≡ 0 → OnSteps k (stepped k sp p (Widget w h)).placer
  unfolding stepped
  control-on p w h i n = control-on-steps k l sp p i (record { x = w; y = h }) (grid-cell k sp p (record { x = w; y = h }) i.grid n)

  row_on : (p : Placer) → OnSteps k p → (stepped k sp p RowEnd).number ≡ 0 → OnSteps k (stepped k sp p RowEnd).placer
  unfolding stepped
  row_on p i n = row-on-steps k l sp p i n

  abbrev Law : List Step → Type 0
  Law steps = (n : ℕ) (p : Placer) → OnSteps k p → (run_from k sp n p steps).number ≡ 0 → FindsTops k sp p steps

  other-tops : {st : Step} (rest : List Step) → Other st → Law rest → (n : ℕ) (p : Placer) → OnSteps k p → (run_from k sp n p (st ∷ rest)).number ≡ 0
      → FindsTops k sp (stepped k sp p st).placer rest
  other-tops {st} rest o ih n p i h =
      let r = run-goes k sp n p st rest h in
      ih (n + 1) (stepped k sp p st).placer (other-on-steps k l sp p i o r.this) r.rest

  pub finds-tops : (steps : List Step) → Law steps
  unfolding FindsTops
  finds-tops [] n p i h = tt
  finds-tops (Widget w h ∷ rest) n p i g =
      let r = run-goes k sp n p (Widget w h) rest g in
      (i.tops.top, finds-tops rest (n + 1) (stepped k sp p (Widget w h)).placer (control-on p w h i r.this) r.rest)
  finds-tops (RowEnd ∷ rest) n p i g =
      let r = run-goes k sp n p RowEnd rest g in
      finds-tops rest (n + 1) (stepped k sp p RowEnd).placer (row_on p i r.this) r.rest
  finds-tops (Space a ∷ rest) n p i g = other-tops rest Other.space (finds-tops rest) n p i g
  finds-tops (RowHeight v ∷ rest) n p i g = other-tops rest Other.row_height (finds-tops rest) n p i g
  finds-tops (MaxWidth w ∷ rest) n p i g = other-tops rest Other.max_width (finds-tops rest) n p i g
  finds-tops (MaxHeight v ∷ rest) n p i g = other-tops rest Other.max_height (finds-tops rest) n p i g
  finds-tops (MinWidth w ∷ rest) n p i g = other-tops rest Other.min_width (finds-tops rest) n p i g
  finds-tops (MinHeight v ∷ rest) n p i g = other-tops rest Other.min_height (finds-tops rest) n p i g

-- ---- the pass
module _ (k : ℕ) (l : k ≤ 6) (s : Sheet) (w : WholeSheet k s) (known : Bool) (m : Memory) (sizing : Bool) (g : s.heading.has_grid ≡ true) (h : (pass k s known m sizing).number ≡ 0) where
  abbrev taken : GridPass k s known m sizing
  taken = grid-pass k s known m sizing g h

  pub always-on-steps : TopsOnSteps k s known m sizing
  always-on-steps =
      subst (λ (p : Placer). FindsTops k s.heading.spacing p s.steps) (sym taken.is)
      (finds-tops k l s.heading.spacing s.steps (s.heading.records + 1) (grid_start k s known m sizing) (begins-on-steps k l s w known m sizing taken) taken.run)

  pub without-K : NoK s.steps → TopsOnSteps k s known m sizing
  without-K n = always-on-steps
