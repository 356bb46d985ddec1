-- Two grown sheets in whole steps, whose records are accepted: their controls' lengths are counts of steps, each count of the second at least
-- its counterpart's. Assumes nothing.
use Prim.Native.Nat.{ℕ, ◌+◌, ◌≤◌}
use mathlib.Core.Path.{◌≡◌, refl, ap, sym, ◌∙◌}
use mathlib.Core.Bool.{true, false}
use mathlib.Core.List.{List, [], ◌∷◌}
use native.Mathlib.Omega.{arith}
use lib.IntN.{ℤ, pos, negsuc, nat_abs}
use lib.Signed.{le_z}
use lib.Ieee.{Float, lt, le}
use Rattle.emath.specs.Rectangles.{zero_f}
use Rattle.emath.specs.Steps.{val, Edge, most}
use Rattle.emath.proofs.Tests.{is-yes}
use Rattle.emath.proofs.Whole.{more, ◌≤ᶻ◌, le_z→}
use Rattle.emath.proofs.Exact.{Small}
use Rattle.emath.proofs.Sums.{edge-small}
use Rattle.emath.proofs.Values.{val-le}
use Rattle.emath.specs.declared.Vec2.{Vec2}
use Rattle.placer.specs.declared.Placer.{Placer}
use Rattle.records.specs.declared.Step.{Step}
use Rattle.records.specs.declared.Step.TheVariants.{Widget, RowEnd}
use Rattle.model.proofs.WholeSteps.Model as model
use Rattle.model.proofs.AnyNumbers.Embedding.{Fits}
use Rattle.model.proofs.InFloats.Ticks.{len, cap}
use Rattle.sheet.specs.Pass.{stepped, run_from, cell_of}
use Rattle.pass_laws.specs.WholeSheets.{WholeSteps}
use Rattle.price_clause.specs.Sheets.{Grown}
use Rattle.sheet.proofs.Runs.{run-goes, widget-placed}
use Rattle.pass_laws.proofs.Widest.{zero_val}
use Rattle.pass_laws.proofs.ColumnLaw.{not_negative_lem, edge-not-negative}
use Rattle.price_clause.proofs.OfGrids.GridRun.{Counts}

-- what the records count fits the domain
pub counts-fit : {k B : ℕ} {steps : List Step} {m : List model.Step} → Counts k B steps m → Fits B m
counts-fit Counts.none = Fits.none
counts-fit (Counts.control ew eh u_b v_b t) = Fits.control u_b v_b (counts-fit t)
counts-fit (Counts.row_end t) = Fits.end (counts-fit t)

positive : (z : ℤ) → pos 0 ≤ᶻ z → z ≡ pos (more z)
positive (pos n) h = refl
positive (negsuc n) h = absurd (omega (arith, h))

more-few : (z : ℤ) → more z ≤ nat_abs z
more-few (pos n) = omega arith
more-few (negsuc n) = omega arith

module _ (k B : ℕ) (l : k ≤ 6) (b : B ≡ most k) where
  -- ---- a length: a whole number of steps, not negative
  pub record Length (x : Float) : Type 0 where
    pub count : ℕ
    pub few : count ≤ B
    pub is : x ≡ len k count

  counted : {x : Float} (e : Edge k x) → pos 0 ≤ᶻ e.steps → Length x
  counted e h =
      let z = e.steps in
      record { count = more z; few = omega (arith, more-few z, e.few); is = e.is ∙ ap (val k) (positive z h) }

  pub length-counted : {x : Float} → Edge k x → lt x zero_f ≡ false → Length x
  length-counted {x} e h = counted e (edge-not-negative k (omega arith) x e h)

  le-steps : (a c : ℤ) → Small a → Small c → le (val k a) (val k c) ≡ true → a ≤ᶻ c
  le-steps a c A C h = record { le = le_z→ a c (is-yes (le_z a c) (sym (val-le k (omega arith) a c A C) ∙ h)) }

  pub gap-counted : {x : Float} → Edge k x → le zero_f x ≡ true → Length x
  gap-counted {x} e h =
      let E = edge-small k (omega arith) e in
      counted e (le-steps (pos 0) e.steps (omega arith) (omega (arith, E)) (rw (zero_val k (omega arith), e.is) at h))

  no_less : {x y : Float} (a : Length x) (c : Length y) → le x y ≡ true → a.count ≤ c.count
  no_less {x} {y} a c h =
      let f = le-steps (pos a.count) (pos c.count) (omega (arith, cap k B l b, a.few)) (omega (arith, cap k B l b, c.few)) (rw (a.is, c.is) at h) in
      omega (arith, f)

  -- ---- the records of two grown sheets
  pub record Both (x y : List Step) : Type 0 where
    pub first : List model.Step
    pub second : List model.Step
    pub counts : Counts k B x first
    pub counts' : Counts k B y second
    pub grown : model.Grown first second

  record Sizes (w h : Float) : Type 0 where
    pub width : Length w
    pub height : Length h

  sizes : (sp : Vec2) (p : Placer) (w h : Float) → Edge k w → Edge k h → (stepped k sp p (Widget w h)).number ≡ 0 → Sizes w h
  unfolding stepped
  sizes sp p w h ew eh n =
      let s : Vec2 = record { x = w; y = h } in
      let a = not_negative_lem s (widget-placed sp p s (cell_of k sp p s) n).size in
      record { width = length-counted ew a.0; height = length-counted eh a.1 }

  module _ (sp : Vec2) where
    abbrev Law : List Step → List Step → Type 0
    Law x y = (i j : ℕ) (p q : Placer) → (run_from k sp i p x).number ≡ 0 → (run_from k sp j q y).number ≡ 0 → Both x y

    both-control : {w h w' h' : Float} {x y : List Step} → le w w' ≡ true → le h h' ≡ true → Edge k w → Edge k h → Edge k w' → Edge k h' → Law x y → Law (Widget w h ∷ x) (Widget w' h' ∷ y)
    both-control {w} {h} {w'} {h'} {x} {y} f g ew eh ew' eh' ih i j p q n m =
        let r = run-goes k sp i p (Widget w h) x n in
        let t = run-goes k sp j q (Widget w' h') y m in
        let a = sizes sp p w h ew eh r.this in
        let c = sizes sp q w' h' ew' eh' t.this in
        let z = ih (i + 1) (j + 1) _ _ r.rest t.rest in
        record {
          first = model.W a.width.count a.height.count ∷ z.first;
          second = model.W c.width.count c.height.count ∷ z.second;
          counts = Counts.control a.width.is a.height.is a.width.few a.height.few z.counts;
          counts' = Counts.control c.width.is c.height.is c.width.few c.height.few z.counts';
          grown = model.Grown.control (no_less a.width c.width f) (no_less a.height c.height g) z.grown;
        }

    both_end : {x y : List Step} → Law x y → Law (RowEnd ∷ x) (RowEnd ∷ y)
    both_end {x} {y} ih i j p q n m =
        let z = ih (i + 1) (j + 1) _ _ (run-goes k sp i p RowEnd x n).rest (run-goes k sp j q RowEnd y m).rest in
        record { first = model.E ∷ z.first; second = model.E ∷ z.second; counts = Counts.row_end z.counts; counts' = Counts.row_end z.counts'; grown = model.Grown.end z.grown }

    both-none : Law [] []
    both-none i j p q n m = record { first = []; second = []; counts = Counts.none; counts' = Counts.none; grown = model.Grown.none }

    pub both-counted : {x y : List Step} → Grown x y → WholeSteps k x → WholeSteps k y → Law x y
    both-counted Grown.none a c = both-none
    both-counted (Grown.control f g t) (WholeSteps.control ew eh a) (WholeSteps.control ew' eh' c) = both-control f g ew eh ew' eh' (both-counted t a c)
    both-counted (Grown.row_end t) (WholeSteps.row_end a) (WholeSteps.row_end c) = both_end (both-counted t a c)
