-- The column law (RULES 10.7): in every accepted pass of a grid sheet, with any records, any given memory, sizing or not, the memory given
-- back counts each column that holds cells, and has the width of its widest control for it, or the minimum where that is more. Assumes
-- nothing.
use Prim.Native.Nat.{ℕ, ◌+◌, ◌≤◌, ◌<◌}
use mathlib.Core.Path.{◌≡◌, refl, ap, sym, ◌∙◌, subst}
use mathlib.Core.Bool.{Bool, true, false, ◌||◌}
use mathlib.Core.List.{[]}
use native.Mathlib.Omega.{arith}
use lib.IntN.{pos}
use lib.Signed.{lt_z}
use lib.ListN.{length}
use lib.Ieee.{Float, lt}
use Rattle.emath.specs.Rectangles.{zero_f}
use Rattle.emath.specs.Refusals.{when, least, size_fault, pair_fault}
use Rattle.emath.specs.Domain.{negative}
use Rattle.emath.specs.Steps.{val, Edge}
use Rattle.emath.proofs.Whole.{◌≤ᶻ◌, nlt_z→}
use Rattle.emath.proofs.Values.{val-lt}
use Rattle.emath.proofs.Sums.{edge-small}
use Rattle.emath.proofs.Refusals.{lesser-none}
use Rattle.emath.proofs.Tests.{is-no}
use Rattle.emath.specs.declared.Vec2.{Vec2}
use Rattle.grid.specs.Memories.{col_width, empty_memory}
use Rattle.grid.specs.Grids.{new_grid, save}
use Rattle.grid.specs.Refusals.{grid_fault}
use Rattle.grid.proofs.Remembered.{entry-none}
use Rattle.grid.specs.declared.Memory.{Memory}
use Rattle.grid.specs.declared.GridLayout.{GridLayout}
use Rattle.placer.specs.Rules.{save_grid}
use Rattle.placer.proofs.Answers.{placer-grid}
use Rattle.placer.proofs.Carried.{new-sound}
use Rattle.placer.specs.declared.Placer.{Placer}
use Rattle.sheet.specs.Pass.{Sheet, run_from, pass}
use Rattle.pass_laws.specs.WholeSheets.{WholeSheet}
use Rattle.pass_laws.specs.Columns.{in_column, widest}
use Rattle.sheet.proofs.Passes.{grid-pass, start, grid_start}
use Rattle.pass_laws.proofs.ColumnRuns.{InGrid, Raised, raised_by, column-run}
use Rattle.pass_laws.proofs.Widest.{column-widths, raised-to-widest, zero_val}

-- a new grid remembers nothing
empty-width : (c : ℕ) → col_width empty_memory c zero_f ≡ zero_f
unfolding col_width
empty-width c = entry-none [] c zero_f (omega arith)

-- what a grid gives back is this pass's memory
pub saved-is : (p : Placer) → p.has_grid ≡ true → (save_grid p).memory ≡ p.grid.curr_state
unfolding save_grid save
saved-is p g = rw g

-- a size without fault is not negative
pub not_negative_lem : (v : Vec2) → size_fault v ≡ 0 → (lt v.x zero_f ≡ false) × (lt v.y zero_f ≡ false)
unfolding size_fault least negative
not_negative_lem v h = go (lt v.x zero_f) (lt v.y zero_f) (lesser-none (pair_fault v.x v.y) (when (lt v.x zero_f || lt v.y zero_f) 6) h).1
  where
    go : (a b : Bool) → when (a || b) 6 ≡ 0 → (a ≡ false) × (b ≡ false)
    go true b e = absurd (omega (arith, e))
    go false true e = absurd (omega (arith, e))
    go false false e = (refl, refl)

pub least-cell : (g : GridLayout) → grid_fault g ≡ 0 → size_fault g.min_cell_size ≡ 0
unfolding grid_fault least
least-cell g h = (lesser-none (size_fault g.min_cell_size) _ (lesser-none _ _ (lesser-none _ _ (lesser-none _ _ (lesser-none _ _ h).1).1).1).1).0

pub edge-not-negative : (k : ℕ) → k ≤ 7 → (x : Float) (e : Edge k x) → lt x zero_f ≡ false → pos 0 ≤ᶻ e.steps
edge-not-negative k l x e h =
    let E = edge-small k l e in
    let f : lt x zero_f ≡ lt_z e.steps (pos 0)
    = ap (λ (y : Float). lt y zero_f) e.is ∙ ap (λ (y : Float). lt (val k e.steps) y) (zero_val k l) ∙ val-lt k (omega arith) e.steps (pos 0) (omega (arith, E)) (omega arith) in
    let n = nlt_z→ e.steps (pos 0) (is-no (lt_z e.steps (pos 0)) (sym f ∙ h)) in
    omega (arith, n)

-- ---- the pass
module _ (k : ℕ) (l : k ≤ 7) (s : Sheet) (known : Bool) (m : Memory) (sizing : Bool) where
  abbrev smallest : Float
  smallest = s.heading.options.min_cell_size.x

  abbrev begins : Placer
  begins = grid_start k s known m sizing

  starts : InGrid smallest begins
  unfolding new_grid
  starts = record { grid = refl; sound = new-sound (start k s known m sizing).region known m sizing s.heading.spacing s.heading.options.min_cell_size s.heading.options.max_cell_size s.heading.options.num_columns s.heading.options.start_row; least = refl }

  start-width : (c : ℕ) → col_width begins.grid.curr_state c zero_f ≡ zero_f
  unfolding new_grid
  start-width c = empty-width c

  start-column : begins.grid.col ≡ 0
  unfolding new_grid
  start-column = refl

  start-least : begins.grid.min_cell_size ≡ s.heading.options.min_cell_size
  unfolding new_grid
  start-least = refl

  pub column-law : WholeSheet k s → s.heading.has_grid ≡ true → (pass k s known m sizing).number ≡ 0 → (c : ℕ) → 0 < length (in_column c 0 s.steps)
      → (c < (pass k s known m sizing).memory.cols) × (col_width (pass k s known m sizing).memory c zero_f ≡ widest smallest (in_column c 0 s.steps))
  column-law w g h c some =
      let p = grid-pass k s known m sizing g h in
      let q = (run_from k s.heading.spacing (s.heading.records + 1) begins s.steps).placer in
      let r : Raised smallest c (in_column c 0 s.steps) begins q
      = subst (λ (j : ℕ). Raised smallest c (in_column c j s.steps) begins q) start-column (column-run smallest c k l s.heading.spacing w.steps (s.heading.records + 1) begins starts p.run) in
      let memory : (pass k s known m sizing).memory ≡ q.grid.curr_state = p.memory ∙ saved-is q r.inside.grid in
      let positive = edge-not-negative k l smallest w.smallest.x (not_negative_lem s.heading.options.min_cell_size (ap (λ (v : Vec2). size_fault v) (sym start-least) ∙ least-cell begins.grid (placer-grid begins refl p.fault))).0 in (
        rw memory (r.counted some),
        ap (λ (x : Memory). col_width x c zero_f) memory ∙ r.width ∙ ap (λ (x : Float). raised_by smallest x (in_column c 0 s.steps)) (start-width c)
            ∙ raised-to-widest k l smallest w.smallest.x (in_column c 0 s.steps) (column-widths k l c w.steps 0) positive some,
      )
