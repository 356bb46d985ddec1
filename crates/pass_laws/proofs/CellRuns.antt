-- What holds of every W that is accepted holds of every cell of a pass, of those before a fault or of all. Where it needs something of the
-- placer, every record has to keep that, and the heading to begin with it. Assumes nothing.
use Prim.Native.Nat.{ℕ, ◌+◌}
use mathlib.Core.Path.{◌≡◌, refl, sym, subst}
use mathlib.Core.Bool.{Bool, true, false, cond}
use mathlib.Core.List.{List, [], ◌∷◌, ◌++◌}
use lib.Dec.{eqb}
use borrow.Author.Tests.{eqb-true}
use Rattle.emath.specs.declared.Vec2.{Vec2}
use Rattle.grid.specs.declared.Memory.{Memory}
use Rattle.placer.specs.declared.Placer.{Placer}
use Rattle.placer.specs.declared.PlacerAnswer.{PlacerAnswer}
use Rattle.records.specs.declared.Step.{Step}
use Rattle.records.specs.declared.Step.TheVariants.{Widget, Space, RowHeight, MaxWidth, MaxHeight, MinWidth, MinHeight, RowEnd}
use Rattle.sheet.specs.Pass.{Sheet, Cell, Stepped, Ran, cell_of, widget_step, called, stepped, followed, run_from, headed, grid_set, begun, ran_with, pass}
use Rattle.sheet.proofs.Slices.{outcome-cells}
use Rattle.pass_laws.specs.EachCell.{EachCell, none, more}

-- ---- one record, and those after it
both : {P : Cell → Type 0} {a b : List Cell} → EachCell P a → EachCell P b → EachCell P (a ++ b)
both none y = y
both (more a x) y = more a (both x y)

followed-each : (P : Cell → Type 0) (n : ℕ) (a : Stepped) (later : Ran) → (a.number ≡ 0 → EachCell P a.cells) → EachCell P later.cells → EachCell P (followed n a later).cells
unfolding followed
followed-each P n a later f r = go (eqb a.number 0) refl
  where
    go : (b : Bool) → eqb a.number 0 ≡ b → EachCell P (followed n a later).cells
    go true e = rw e (both (f (eqb-true a.number 0 e)) r)
    go false e = rw e none

-- P of the cells, I of the placer
module _ (k : ℕ) (P : Cell → Type 0) (I : Placer → Type 0) (sp : Vec2)
    (control : (p : Placer) (s : Vec2) → I p → (widget_step sp p s (cell_of k sp p s)).number ≡ 0 → P (cell_of k sp p s))
    (kept : (p : Placer) (st : Step) → I p → I (stepped k sp p st).placer) where
  stepped-each : (p : Placer) (st : Step) → I p → (stepped k sp p st).number ≡ 0 → EachCell P (stepped k sp p st).cells
  unfolding stepped widget_step
  stepped-each p (Widget w h) i n = more (control p (record { x = w; y = h }) i n) none
  stepped-each p (Space a) i n = none
  stepped-each p RowEnd i n = none
  stepped-each p (RowHeight h) i n = none
  stepped-each p (MaxWidth w) i n = none
  stepped-each p (MaxHeight h) i n = none
  stepped-each p (MinWidth w) i n = none
  stepped-each p (MinHeight h) i n = none

  run-each : (n : ℕ) (p : Placer) (steps : List Step) → I p → EachCell P (run_from k sp n p steps).cells
  unfolding run_from
  run-each n p [] i = none
  run-each n p (st ∷ rest) i = followed-each P n (stepped k sp p st) _ (stepped-each p st i) (run-each (n + 1) (stepped k sp p st).placer rest (kept p st i))

-- ---- a pass
module _ (k : ℕ) (s : Sheet) (known : Bool) (m : Memory) (sizing : Bool) (P : Cell → Type 0) (I : Placer → Type 0)
    (control : (p : Placer) (z : Vec2) → I p → (widget_step s.heading.spacing p z (cell_of k s.heading.spacing p z)).number ≡ 0 → P (cell_of k s.heading.spacing p z))
    (kept : (p : Placer) (st : Step) → I p → I (stepped k s.heading.spacing p st).placer)
    (begins : I (headed k s.heading).placer) (gridded : I (grid_set s.heading known m sizing (headed k s.heading).placer).placer) where
  ran-each : EachCell P (ran_with k s known m sizing (headed k s.heading).placer).cells
  unfolding ran_with begun
  ran-each = go s.heading.has_grid
    where
      p : Placer
      p = (headed k s.heading).placer

      g : PlacerAnswer
      g = grid_set s.heading known m sizing p

      from : ℕ
      from = s.heading.records + 1

      go : (b : Bool) → EachCell P (cond b (followed s.heading.records (called g) (run_from k s.heading.spacing from g.placer s.steps)) (run_from k s.heading.spacing from p s.steps)).cells
      go true = followed-each P s.heading.records (called g) _ (λ (e : g.number ≡ 0). none) (run-each k P I s.heading.spacing control kept from g.placer s.steps gridded)
      go false = run-each k P I s.heading.spacing control kept from p s.steps begins

  pub pass-each : EachCell P (pass k s known m sizing).cells
  unfolding pass begun
  pass-each =
      let h = headed k s.heading in
      let r = ran_with k s known m sizing h.placer in
      subst (EachCell P) (sym (outcome-cells s.heading.has_grid m (followed 1 (called h) r))) (followed-each P 1 (called h) r (λ (e : h.number ≡ 0). none) ran-each)
