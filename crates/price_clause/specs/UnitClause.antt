-- RULES 10.13 to 10.15: the price clause in the unit that a sheet has, and how wide the plate of a strip is, in steps and in hundredths of a
-- millimetre. Of the rule for steps of 1 / 2 ^ k point, and of the call that runs.
use Rattle.std.specs.Prelude.{◌≡◌, Bool, true, ℕ, ◌-◌, ◌*◌, ℤ, pos, ◌+ℤ◌, ◌-ℤ◌, ◌*ℤ◌, length, ◌≤ℤ◌, Float}
use mathlib.Core.List.{List, [], ◌∷◌, map, Forall₂}
use Rattle.emath.specs.Steps.{tick}
use Rattle.grid.specs.declared.Memory.{Memory}
use Rattle.records.specs.Units.{in_steps}
use Rattle.records.specs.Conversions.{Near, step_parts, hundredth_parts, total}
use Rattle.records.specs.Controls.{only_controls, Size, sizes_in, Sized}
use Rattle.records.specs.declared.SizeUnit.{SizeUnit}
use Rattle.records.specs.declared.SizeUnit.TheVariants.{Hundredths}
use Rattle.records.specs.declared.Step.{Step}
use Rattle.records.specs.declared.Step.TheVariants.{Widget, RowEnd}
use Rattle.sheet.specs.Pass.{Sheet, pass}
use Rattle.sheet.specs.Ticks.{ticks, in_ticks, width}
use Rattle.sheet.specs.Texts.{sheet_in}
use Rattle.sheet.specs.Slices.{Called, controls}
use Rattle.sheet.specs.Slices as laid
use Rattle.sheet.specs.Slices.{Passed}
use Rattle.pass_laws.specs.WholeSheets.{WholeSheet}
use Rattle.price_clause.specs.Sheets.{Grown, NoNegativeSpacing, Strip}
use Rattle.price_clause.specs.PriceClause.{Accepted}
use Rattle.price_clause.specs.CallClause.{InTurn, NoLessIn}

-- ---- RULES 10.13: two sheets in their own unit
-- the same records one by one, W and E only, whatever the sizes
pub data Alike : List Step → List Step → Type 0 where
  none : Alike [] []
  control : {w h w' h' : Float} {a b : List Step} → Alike a b → Alike (Widget w h ∷ a) (Widget w' h' ∷ b)
  row_end : {a b : List Step} → Alike a b → Alike (RowEnd ∷ a) (RowEnd ∷ b)

-- RULES 10.13: a size b beside a size a, as they are written: neither field is less
pub record NoSmaller (a b : Size) : Type 0 where
  pub width : a.width ≤ℤ b.width
  pub height : a.height ≤ℤ b.height

-- RULES 10.13: two texts with the same heading, and so with the same unit, alike but for larger sizes in the second
pub record GrownText (a b : List ℕ) : Type 0 where
  pub heading : (sheet_in a).heading ≡ (sheet_in b).heading
  pub records : Alike (sheet_in a).steps (sheet_in b).steps
  pub sizes : Forall₂ NoSmaller (sizes_in a) (sizes_in b)

-- ---- RULES 10.14: n controls have n - 1 spacings between them, none for none
abbrev pub spacings : ℤ → ℕ → ℤ
spacings gap n = pos (n - 1) *ℤ gap

-- RULES 10.14: the widths of some controls, as they are written, and in steps
abbrev pub widths : List Size → List ℤ
widths sizes = map (λ (z : Size). z.width) sizes

abbrev pub step_widths : ℕ → SizeUnit → List Size → List ℤ
step_widths k u sizes = map (in_steps k u) (widths sizes)

-- ---- RULES 10.15: the margin: a plate that is so wide, with so much between two controls whose widths are these hundredths
abbrev pub Margin : ℕ → ℤ → ℤ → List ℤ → Type 0
Margin k wide gap zs = Near (317 * length zs) (step_parts wide -ℤ step_parts (spacings gap (length zs))) (hundredth_parts k (total zs))

-- ---- of the rule
pub record UnitClause (k : ℕ) : Type 0 where
  -- RULES 6.26, 10.3: sheets that are alike but for larger controls are sheets of controls
  pub controls : {a b : List Step} → Grown a b → (only_controls a ≡ true) × (only_controls b ≡ true)
  -- RULES 10.13: what is larger as it is written is a larger control, so that two such sheets are grown as the price clause asks
  pub grown : (u : SizeUnit) {sizes sizes' : List Size} {a b : List Step} → Sized k u sizes a → Sized k u sizes' b → Alike a b → Forall₂ NoSmaller sizes sizes' → Grown a b
  -- RULES 10.14: the plate of a strip is as wide as its controls together and the spacings between them
  pub strip-width : (s : Sheet) → WholeSheet k s → Strip s → NoNegativeSpacing s → (u : SizeUnit) (sizes : List Size) → Sized k u sizes s.steps
      → (known : Bool) (m : Memory) (sizing : Bool) → Accepted (pass k s known m sizing)
      → width (in_ticks k (pass k s known m sizing).plate) ≡ total (step_widths k u sizes) +ℤ spacings (ticks k s.heading.spacing.x) (length sizes)
  -- RULES 10.15: in hundredths of a millimetre
  pub margin : (s : Sheet) → WholeSheet k s → Strip s → NoNegativeSpacing s → (sizes : List Size) → Sized k Hundredths sizes s.steps
      → (known : Bool) (m : Memory) (sizing : Bool) → Accepted (pass k s known m sizing)
      → Margin k (width (in_ticks k (pass k s known m sizing).plate)) (ticks k s.heading.spacing.x) (widths sizes)

-- ---- of the call that runs
pub record UnitCalls : Type 0 where
  -- RULES 10.13: strips, and the second calls on grids (RULES 10.5, 10.6), in the unit of the sheets
  pub strips : (a b : List ℕ) → GrownText a b → Strip (sheet_in a) → NoNegativeSpacing (sheet_in a)
      → (known known' : Bool) (m m' : Memory) (sizing sizing' : Bool) (out out' exit exit' : List ℤ) (p q : Passed)
      → Called a known m sizing out p exit → Called b known' m' sizing' out' q exit' → p.laid ≡ laid.Accepted → q.laid ≡ laid.Accepted
      → NoLessIn (controls (sheet_in a).steps) p q exit exit'
  pub grids : (a b : List ℕ) → GrownText a b → (sheet_in a).heading.has_grid ≡ true → NoNegativeSpacing (sheet_in a)
      → (m m' : Memory) (p q : ℕ → Passed) (out out' : ℕ → List ℤ) → InTurn a m 2 p out → InTurn b m' 2 q out'
      → (p 0).laid ≡ laid.Accepted → (p 1).laid ≡ laid.Accepted → (q 0).laid ≡ laid.Accepted → (q 1).laid ≡ laid.Accepted
      → NoLessIn (controls (sheet_in a).steps) (p 1) (q 1) (out 2) (out' 2)
  -- RULES 10.14, 10.15: an accepted call on a strip of W and E only
  pub strip-width : (text : List ℕ) → Strip (sheet_in text) → NoNegativeSpacing (sheet_in text) → only_controls (sheet_in text).steps ≡ true
      → (known : Bool) (m : Memory) (sizing : Bool) (out exit : List ℤ) (p : Passed) → Called text known m sizing out p exit → p.laid ≡ laid.Accepted
      → width (in_ticks tick p.plate) ≡ total (step_widths tick (sheet_in text).heading.unit (sizes_in text)) +ℤ spacings (ticks tick (sheet_in text).heading.spacing.x) (length (sizes_in text))
  pub margin : (text : List ℕ) → (sheet_in text).heading.unit ≡ Hundredths → Strip (sheet_in text) → NoNegativeSpacing (sheet_in text) → only_controls (sheet_in text).steps ≡ true
      → (known : Bool) (m : Memory) (sizing : Bool) (out exit : List ℤ) (p : Passed) → Called text known m sizing out p exit → p.laid ≡ laid.Accepted
      → Margin tick (width (in_ticks tick p.plate)) (ticks tick (sheet_in text).heading.spacing.x) (widths (sizes_in text))
