-- The larger of the minimum and the widest of some controls is what their column is raised to, from nothing. Assumes nothing.
use Prim.Native.Nat.{ℕ, ◌+◌, ◌≤◌, ◌<◌}
use mathlib.Core.Path.{◌≡◌, refl, ap, sym, ◌∙◌}
use mathlib.Core.Bool.{Bool, true, false, cond}
use mathlib.Core.List.{List, [], ◌∷◌, map}
use native.Mathlib.Omega.{arith}
use lib.Dec.{eqb}
use lib.ListN.{length}
use lib.IntN.{ℤ, pos}
use lib.Ieee.{Float, of_bits}
use Rattle.emath.specs.Rectangles.{zero_f, max_f}
use Rattle.emath.specs.Steps.{val, Edge}
use Rattle.emath.proofs.Whole.{Within, ◌≤ᶻ◌, max_z, max-is, whole}
use Rattle.emath.proofs.Values.{val-max}
use Rattle.emath.proofs.Zeros.{val-zero}
use Rattle.emath.proofs.Sums.{edge-small}
use Rattle.records.specs.declared.Step.{Step}
use Rattle.pass_laws.specs.WholeSheets.{WholeSteps, none, control, space, row_height, max_width, max_height, min_width, min_height, row_end}
use Rattle.pass_laws.specs.Columns.{in_column, widest}
use Rattle.pass_laws.proofs.ColumnRuns.{raised_by}

-- ---- in whole steps
unfoldable widest_z : ℤ → List ℤ → ℤ
widest_z m [] = m
widest_z m (z ∷ zs) = max_z z (widest_z m zs)

unfoldable raised_z : ℤ → ℤ → List ℤ → ℤ
raised_z m e [] = e
raised_z m e (z ∷ zs) = raised_z m (max_z e (max_z z m)) zs

pub data AllSmall : List ℤ → Type 0 where
  nothing : AllSmall []
  another : {z : ℤ} {zs : List ℤ} → Within 8388608 z → AllSmall zs → AllSmall (z ∷ zs)

least-widest : (m : ℤ) (zs : List ℤ) → m ≤ᶻ widest_z m zs
unfolding widest_z
least-widest m [] = omega arith
least-widest m (z ∷ zs) = let i = least-widest m zs in omega (arith, max-is z (widest_z m zs), i)

widest-small : (m : ℤ) {zs : List ℤ} → Within 8388608 m → AllSmall zs → Within 8388608 (widest_z m zs)
unfolding widest_z
widest-small m M AllSmall.nothing = M
widest-small m M (AllSmall.another {z = z} {zs = zs} a t) = let i = widest-small m M t in omega (arith, max-is z (widest_z m zs), i, a)

-- from an entry that is no less than the minimum
raised-from : (m e : ℤ) (zs : List ℤ) → m ≤ᶻ e → raised_z m e zs ≡ max_z e (widest_z m zs)
unfolding raised_z widest_z
raised-from m e [] h = omega (arith, whole, max-is e m, h)
raised-from m e (z ∷ zs) h =
    let f : m ≤ᶻ max_z e (max_z z m) = omega (arith, max-is e (max_z z m), max-is z m, h) in
    let g : max_z (max_z e (max_z z m)) (widest_z m zs) ≡ max_z e (max_z z (widest_z m zs))
    = omega (arith, whole, max-is (max_z e (max_z z m)) (widest_z m zs), max-is e (max_z z m), max-is z m, max-is e (max_z z (widest_z m zs)), max-is z (widest_z m zs), least-widest m zs) in
    raised-from m (max_z e (max_z z m)) zs f ∙ g

-- from nothing
raised-up : (m z : ℤ) (zs : List ℤ) → pos 0 ≤ᶻ m → raised_z m (pos 0) (z ∷ zs) ≡ widest_z m (z ∷ zs)
unfolding raised_z widest_z
raised-up m z zs h =
    let f : m ≤ᶻ max_z (pos 0) (max_z z m) = omega (arith, max-is (pos 0) (max_z z m), max-is z m) in
    let g : max_z (max_z (pos 0) (max_z z m)) (widest_z m zs) ≡ max_z z (widest_z m zs)
    = omega (arith, whole, max-is (max_z (pos 0) (max_z z m)) (widest_z m zs), max-is (pos 0) (max_z z m), max-is z m, max-is z (widest_z m zs), least-widest m zs, h) in
    raised-from m (max_z (pos 0) (max_z z m)) zs f ∙ g

-- ---- as f32
module _ (k : ℕ) (l : k ≤ 7) where
  max-val : (a b : ℤ) → Within 8388608 a → Within 8388608 b → max_f (val k a) (val k b) ≡ val k (max_z a b)
  max-val a b A B = val-max k (omega arith) a b (omega (arith, A)) (omega (arith, B))

  max-small : (a b : ℤ) → Within 8388608 a → Within 8388608 b → Within 8388608 (max_z a b)
  max-small a b A B = omega (arith, max-is a b, A, B)

  widest-val : (m : ℤ) {zs : List ℤ} → Within 8388608 m → AllSmall zs → widest (val k m) (map (val k) zs) ≡ val k (widest_z m zs)
  unfolding widest widest_z
  widest-val m M AllSmall.nothing = refl
  widest-val m M (AllSmall.another {z = z} {zs = zs} a t) = rw (widest-val m M t) (max-val z (widest_z m zs) a (widest-small m M t))

  raised-val : (m e : ℤ) {zs : List ℤ} → Within 8388608 m → Within 8388608 e → AllSmall zs → raised_by (val k m) (val k e) (map (val k) zs) ≡ val k (raised_z m e zs)
  unfolding raised_by raised_z
  raised-val m e M E AllSmall.nothing = refl
  raised-val m e M E (AllSmall.another {z = z} {zs = zs} a t) =
      let b = max-small z m a M in
      let f : max_f (val k e) (max_f (val k z) (val k m)) ≡ val k (max_z e (max_z z m)) = ap (λ (x : Float). max_f (val k e) x) (max-val z m a M) ∙ max-val e (max_z z m) E b in
      ap (λ (x : Float). raised_by (val k m) x (map (val k) zs)) f ∙ raised-val m (max_z e (max_z z m)) M (max-small e (max_z z m) E b) t

  -- ---- a column's controls are in whole steps
  pub record Widths (ws : List Float) : Type 0 where
    pub steps : List ℤ
    pub small : AllSmall steps
    pub are : ws ≡ map (val k) steps

  no-widths : Widths []
  no-widths = record { steps = []; small = AllSmall.nothing; are = refl }

  width-more : (b : Bool) (w : Float) (ws : List Float) → Edge k w → Widths ws → Widths (cond b (w ∷ ws) ws)
  width-more true w ws e t = record { steps = e.steps ∷ t.steps; small = AllSmall.another (edge-small k l e) t.small; are = rw (e.is, t.are) }
  width-more false w ws e t = t

  pub column-widths : (c : ℕ) {steps : List Step} → WholeSteps k steps → (j : ℕ) → Widths (in_column c j steps)
  unfolding in_column
  column-widths c none j = no-widths
  column-widths c (control {w = w} {rest = rest} ew eh t) j = width-more (eqb j c) w (in_column c (j + 1) rest) ew (column-widths c t (j + 1))
  column-widths c (row_end t) j = column-widths c t 0
  column-widths c (space e t) j = column-widths c t j
  column-widths c (row_height e t) j = column-widths c t j
  column-widths c (max_width e t) j = column-widths c t j
  column-widths c (max_height e t) j = column-widths c t j
  column-widths c (min_width e t) j = column-widths c t j
  column-widths c (min_height e t) j = column-widths c t j

  pub zero_val : zero_f ≡ val k (pos 0)
  unfolding of_bits
  zero_val = sym (val-zero k)

  -- the law
  pub raised-to-widest : (smallest : Float) (m : Edge k smallest) (ws : List Float) → Widths ws → pos 0 ≤ᶻ m.steps → 0 < length ws → raised_by smallest zero_f ws ≡ widest smallest ws
  raised-to-widest smallest m ws t h some =
      let M = edge-small k l m in
      let Z : Within 8388608 (pos 0) = omega arith in
      rw (zero_val, m.is, t.are) (raised-val m.steps (pos 0) M Z t.small ∙ ap (val k) (up t.steps (rw t.are at some)) ∙ sym (widest-val m.steps M t.small))
    where
      up : (zs : List ℤ) → 0 < length (map (val k) zs) → raised_z m.steps (pos 0) zs ≡ widest_z m.steps zs
      up [] n = absurd (omega (arith, n))
      up (z ∷ zs) n = raised-up m.steps z zs h
