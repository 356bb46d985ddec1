-- The clause in the unit that a sheet has, and the widths of strips: of the rule, for steps of 1 to 1/64 point, and of the call that runs.
-- Assumes nothing.
use Prim.Native.Nat.{ℕ, ◌+◌, ◌≤◌}
use mathlib.Core.Path.{◌≡◌, refl, ap, ◌∙◌, subst}
use mathlib.Core.Bool.{Bool, true}
use mathlib.Core.List.{List, [], ◌∷◌, map, Forall₂}
use native.Mathlib.Omega.{arith}
use lib.IntN.{ℤ, ◌+ℤ◌, ◌-ℤ◌}
use lib.ListN.{length, length-map}
use lib.Signed.{◌≤ℤ◌}
use lib.Ieee.{Float, le}
use Rattle.emath.specs.Steps.{tick}
use Rattle.emath.proofs.Whole.{sum, diff, same}
use Rattle.emath.proofs.Tests.{T_true}
use Rattle.emath.proofs.Values.{val-le}
use Rattle.emath.proofs.Sums.{edge-small}
use Rattle.grid.specs.declared.Memory.{Memory}
use Rattle.records.specs.Units.{from_hundredths, in_steps}
use Rattle.records.specs.Conversions.{step_parts, total}
use Rattle.records.specs.Controls.{only_controls, Size, sizes_in, Measures, Sized}
use Rattle.records.specs.declared.SizeUnit.{SizeUnit}
use Rattle.records.specs.declared.SizeUnit.TheVariants.{Steps, Hundredths}
use Rattle.records.specs.declared.Heading.{Heading}
use Rattle.records.specs.declared.Step.{Step}
use Rattle.records.specs.Headings.{heading_in}
use Rattle.records.specs.Sheets.{records, wrong_from}
use Rattle.records.proofs.Checks.{clear}
use Rattle.records.proofs.Hundredths.{converts, more-times, less-times}
use Rattle.sheet.specs.Pass.{pass}
use Rattle.sheet.specs.Texts.{sheet_in}
use Rattle.sheet.specs.Slices.{Called}
use Rattle.sheet.specs.Slices.{Accepted}
use Rattle.sheet.specs.Slices.{Passed}
use Rattle.sheet.proofs.Controls.{text-sized}
use Rattle.sheet.proofs.Shown.{shown}
use Rattle.sheet.specs.Ticks.{ticks, in_ticks, width}
use Rattle.pass_laws.proofs.TextTicks.{text-whole}
use Rattle.price_clause.specs.Sheets.{Grown, GrownSheet, NoNegativeSpacing, Strip}
use Rattle.price_clause.specs.UnitClause.{Alike, NoSmaller, GrownText, spacings, widths, step_widths, Margin, UnitClause, UnitCalls}
use Rattle.price_clause.proofs.CallClause.{not-turned-back, call-clause}
use Rattle.price_clause.proofs.OfStrips.StripWidths.{strip-wide}

-- ---- larger as it is written, larger in steps
in_order : (k : ℕ) (u : SizeUnit) (y z : ℤ) → y ≤ℤ z → in_steps k u y ≤ℤ in_steps k u z
unfolding in_steps
in_order k Steps y z h = h
in_order k Hundredths y z h = (converts k).order y z h

-- ---- alike, and so sheets of controls
alike-only : {a b : List Step} → Alike a b → (only_controls a ≡ true) × (only_controls b ≡ true)
unfolding only_controls
alike-only Alike.none = (refl, refl)
alike-only (Alike.control s) = alike-only s
alike-only (Alike.row_end s) = alike-only s

alike : {a b : List Step} → Grown a b → Alike a b
alike Grown.none = Alike.none
alike (Grown.control w h g) = Alike.control (alike g)
alike (Grown.row_end g) = Alike.row_end (alike g)

module _ (k : ℕ) (l : k ≤ 6) where
  measured-le : {u : SizeUnit} {y z : ℤ} {x x' : Float} → Measures k u y x → Measures k u z x' → y ≤ℤ z → le x x' ≡ true
  measured-le {u} {y} {z} m n h =
      let a = in_steps k u y in
      let b = in_steps k u z in
      let A = edge-small k (omega arith) (record { steps = a; few = m.few; is = m.is }) in
      let B = edge-small k (omega arith) (record { steps = b; few = n.few; is = n.is }) in
      rw (m.is, n.is) (val-le k (omega arith) a b (omega arith) (omega arith) ∙ T_true _ (in_order k u y z h).le)

  grows : (u : SizeUnit) {sizes sizes' : List Size} {a b : List Step} → Sized k u sizes a → Sized k u sizes' b → Alike a b → Forall₂ NoSmaller sizes sizes' → Grown a b
  grows u Sized.none Sized.none Alike.none Forall₂.nil = Grown.none
  grows u Sized.none (Sized.control W H x) z ns = elim z [ ]
  grows u Sized.none (Sized.row_end x) z ns = elim z [ ]
  grows u (Sized.control W H x) Sized.none z ns = elim z [ ]
  grows u (Sized.control W H x) (Sized.row_end y) z ns = elim z [ ]
  grows u (Sized.row_end x) Sized.none z ns = elim z [ ]
  grows u (Sized.row_end x) (Sized.control W H y) z ns = elim z [ ]
  grows u (Sized.control W H x) (Sized.control W' H' y) (Alike.control s) (Forall₂.cons n rest) = Grown.control (measured-le W W' n.width) (measured-le H H' n.height) (grows u x y s rest)
  grows u (Sized.row_end x) (Sized.row_end y) (Alike.row_end s) ns = Grown.row_end (grows u x y s ns)

  -- ---- the margin is that of the conversions together, since the spacings are whole steps
  as-converted : (zs : List ℤ) → map (in_steps k Hundredths) zs ≡ map (from_hundredths k) zs
  unfolding in_steps
  as-converted [] = refl
  as-converted (z ∷ zs) = ap (λ (ys : List ℤ). from_hundredths k z ∷ ys) (as-converted zs)

  less-spacings : (a b : ℤ) → step_parts (a +ℤ b) -ℤ step_parts b ≡ step_parts a
  less-spacings a b =
      same (step_parts (a +ℤ b) -ℤ step_parts b) (step_parts a)
      (omega (arith, diff (step_parts (a +ℤ b)) (step_parts b), more-times 635 (a +ℤ b), less-times 635 (a +ℤ b), more-times 635 b, less-times 635 b, more-times 635 a, less-times 635 a, sum a b))

  in-margin : (wide gap : ℤ) (sizes : List Size) → wide ≡ total (step_widths k Hundredths sizes) +ℤ spacings gap (length sizes) → Margin k wide gap (widths sizes)
  in-margin wide gap sizes e =
      let T = total (step_widths k Hundredths sizes) in
      let n : length (widths sizes) ≡ length sizes = length-map sizes (λ (z : Size). z.width) in
      let p : step_parts wide -ℤ step_parts (spacings gap (length (widths sizes))) ≡ step_parts (total (map (from_hundredths k) (widths sizes)))
      = rw (n, e) (less-spacings T (spacings gap (length sizes))) ∙ ap (λ (ys : List ℤ). step_parts (total ys)) (as-converted (widths sizes)) in
      rw p ((converts k).together (widths sizes))

  pub unit-clause : UnitClause k
  unit-clause = record {
    controls = λ g. alike-only (alike g);
    grown = grows;
    strip-width = strip-wide k l;
    margin = λ s W T N sizes Z known m sizing e. in-margin (width (in_ticks k (pass k s known m sizing).plate)) (ticks k s.heading.spacing.x) sizes (strip-wide k l s W T N Hundredths sizes Z known m sizing e);
  }

-- ---- of texts, in ticks, and of the call
-- a call that is accepted read no malformed record
read-well : (text : List ℕ) (known : Bool) (m : Memory) (sizing : Bool) (out exit : List ℤ) (p : Passed) → Called text known m sizing out p exit → p.laid ≡ Accepted
    → wrong_from ((heading_in text).records + 1) (records text) ≡ 0
read-well text known m sizing out exit p c a = let (r, w, e) = not-turned-back text known m sizing out p exit c a in (clear text (length out) r w e).steps

grown-text : (a b : List ℕ) → GrownText a b → wrong_from ((heading_in a).records + 1) (records a) ≡ 0 → wrong_from ((heading_in b).records + 1) (records b) ≡ 0 → GrownSheet (sheet_in a) (sheet_in b)
grown-text a b g h h' =
    let o = alike-only g.records in
    let u = ap (λ (x : Heading). x.unit) g.heading in
    record { heading = g.heading; steps = grows tick (omega arith) (heading_in b).unit (subst (λ (v : SizeUnit). Sized tick v (sizes_in a) (sheet_in a).steps) u (text-sized a h o.0)) (text-sized b h' o.1) g.records g.sizes }

wide-text : (text : List ℕ) → Strip (sheet_in text) → NoNegativeSpacing (sheet_in text) → only_controls (sheet_in text).steps ≡ true
    → (known : Bool) (m : Memory) (sizing : Bool) (out exit : List ℤ) (p : Passed) → Called text known m sizing out p exit → p.laid ≡ Accepted
    → width (in_ticks tick p.plate) ≡ total (step_widths tick (sheet_in text).heading.unit (sizes_in text)) +ℤ spacings (ticks tick (sheet_in text).heading.spacing.x) (length (sizes_in text))
wide-text text S N o known m sizing out exit p c a =
    let x = shown text known m sizing out p exit c a in
    rw x.plate (strip-wide tick (omega arith) (sheet_in text) (text-whole text) S N (heading_in text).unit (sizes_in text) (text-sized text (read-well text known m sizing out exit p c a) o) known m sizing x.number)

pub unit-calls : UnitCalls
unit-calls = record {
  strips = λ a b g s n known known' m m' sizing sizing' out out' exit exit' p q c d x y.
      call-clause.strips a b (grown-text a b g (read-well a known m sizing out exit p c x) (read-well b known' m' sizing' out' exit' q d y)) s n known known' m m' sizing sizing' out out' exit exit' p q c d x y;
  grids = λ a b g h n m m' p q out out' c d p₀ p₁ q₀ q₁.
      call-clause.grids a b (grown-text a b g (read-well a _ m true (out 0) (out 1) (p 0) (c.first (omega arith)) p₀) (read-well b _ m' true (out' 0) (out' 1) (q 0) (d.first (omega arith)) q₀)) h n m m' p q out out' c d p₀ p₁ q₀ q₁;
  strip-width = wide-text;
  margin = λ text u S N o known m sizing out exit p c a. in-margin tick (omega arith) (width (in_ticks tick p.plate)) (ticks tick (sheet_in text).heading.spacing.x) (sizes_in text)
      (subst (λ (v : SizeUnit). width (in_ticks tick p.plate) ≡ total (step_widths tick v (sizes_in text)) +ℤ spacings (ticks tick (sheet_in text).heading.spacing.x) (length (sizes_in text))) u (wide-text text S N o known m sizing out exit p c a));
}
