-- The price clause of grids (`grids` of PriceClause), from both sheets' second passes. Assumes nothing.
use Prim.Native.Nat.{ℕ, ◌+◌, ◌≤◌}
use mathlib.Core.Path.{◌≡◌, refl, ap, sym, ◌∙◌, subst}
use mathlib.Core.Bool.{Bool, true, false}
use mathlib.Core.List.{List, map, Forall₂}
use lib.Ieee.{Float}
use Rattle.emath.specs.Steps.{most}
use Rattle.grid.specs.Memories.{widths, heights}
use Rattle.grid.specs.Grids.{known_memory}
use Rattle.grid.specs.declared.Memory.{Memory}
use Rattle.placer.proofs.Carried.{new-sound}
use Rattle.records.specs.declared.Heading.{Heading}
use Rattle.model.proofs.WholeSteps.Model as model
use Rattle.model.proofs.AnyNumbers.EngineAnswers.{accepted}
use Rattle.model.proofs.AnyNumbers.Engine.{EngineState, Given, Move, Out, HeadF, MemF, memory_f, begin_f, run_f, pass_f, first_f, later_f}
use Rattle.model.proofs.AnyNumbers.Embedding.{moves, head_of, FineHeading, Fits}
use Rattle.model.proofs.InFloats.Ticks.{pt, len}
use Rattle.model.proofs.InFloats.Floats.{ops}
use Rattle.model.proofs.InFloats.InTicks.{Frame≤, Opened, grids-in-ticks}
use Rattle.sheet.specs.Pass.{Sheet, Cell, Ran, run_from, pass}
use Rattle.sheet.specs.Passes.{passes}
use Rattle.pass_laws.specs.WholeSheets.{WholeSheet}
use Rattle.price_clause.specs.Sheets.{GrownSheet, NoNegativeSpacing, CellNoLess}
use Rattle.sheet.proofs.Passes.{GridPass, grid-pass, start, grid_start}
use Rattle.pass_laws.proofs.ColumnLaw.{saved-is}
use Rattle.price_clause.proofs.Plates.{Open}
use Rattle.price_clause.proofs.OfGrids.GridStates.{edges_of, given_of}
use Rattle.price_clause.proofs.OfGrids.GridSteps.{InGrid}
use Rattle.price_clause.proofs.OfGrids.GridRun.{always, Counts, out_of, Follows, run-follows}
use Rattle.price_clause.proofs.OfGrids.GridCounts.{counts-fit, Both, both-counted}
use Rattle.price_clause.proofs.OfGrids.TickOrders.{frame_ticks, frames-no-less, frames-open}
use Rattle.price_clause.proofs.OfGrids.GridHeads.{head_of_sheet, begun, begin-state, begin-given, sheet-headed}

-- nothing but the engine's own tests turns it back
abbrev yes : Given Float → EngineState Float → Move Float → Bool
yes g = always

abbrev memory_of : Memory → MemF Float
memory_of m = record { cols = widths m; rows = heights m }

abbrev last_run : ℕ → Sheet → Bool → Memory → Bool → Ran
last_run k s known m sizing = run_from k s.heading.spacing (s.heading.records + 1) (grid_start k s known m sizing) s.steps

-- ---- passes
first-pass : (k : ℕ) (s : Sheet) (none : Memory) → s.heading.has_grid ≡ true → (passes k s none 0).number ≡ 0 → GridPass k s false none true
unfolding passes
first-pass k s none g one = grid-pass k s false none true g one

second-pass : (k : ℕ) (s : Sheet) (none : Memory) → s.heading.has_grid ≡ true → (passes k s none 1).number ≡ 0 → GridPass k s true (passes k s none 0).memory false
unfolding passes
second-pass k s none g two = grid-pass k s true (passes k s none 0).memory false g two

-- both are the engine's, from the head h and with the records ms
record ByEngine (k : ℕ) (s : Sheet) (none : Memory) (ms : List model.Step) (h : HeadF Float) : Type 0 where
  pub one : Out Float (EngineState Float)
  pub two : Out Float (EngineState Float)
  pub first : first_f (ops k) yes h (moves (len k) ms) ≡ accepted one
  pub second : later_f (ops k) yes h (moves (len k) ms) (memory_f one) ≡ accepted two
  pub frames : two.frames ≡ map (λ (x : Cell). edges_of x.frame) (passes k s none 1).cells

module _ (k B : ℕ) (l : k ≤ 6) (b : B ≡ most k) (s : Sheet) (ms : List model.Step) (c : Counts k B s.steps ms) where
  module _ (known : Bool) (m : Memory) (sizing : Bool) (p : GridPass k s known m sizing) where
    starts : InGrid (grid_start k s known m sizing)
    starts = record { grid = refl; sound = new-sound (start k s known m sizing).region known m sizing s.heading.spacing s.heading.options.min_cell_size s.heading.options.max_cell_size s.heading.options.num_columns s.heading.options.start_row }

    follows : Follows k B l b s.heading.spacing (s.heading.records + 1) 3 (grid_start k s known m sizing) s.steps ms
    follows = run-follows k B l b s.heading.spacing c (s.heading.records + 1) (grid_start k s known m sizing) starts p.run 3

    -- it is the engine's, from the sheet's head
    engine-pass : pass_f (ops k) yes (head_of_sheet k s) (moves (len k) ms) sizing (memory_of (known_memory known m)) ≡ accepted (out_of (last_run k s known m sizing))
    unfolding pass_f
    engine-pass =
        let q = begun k l s known m sizing p in
        ap (λ (g : Given Float). run_f (ops k) g always (begin_f (head_of_sheet k s)) 3 (moves (len k) ms)) (sym (begin-given k l s known m sizing q))
        ∙ ap (λ (x : EngineState Float). run_f (ops k) (given_of (grid_start k s known m sizing).grid) always x 3 (moves (len k) ms)) (sym (begin-state k l s known m sizing q))
        ∙ follows.accepts

    -- the memory that it gives back
    memory-is : (pass k s known m sizing).memory ≡ (last_run k s known m sizing).placer.grid.curr_state
    memory-is = p.memory ∙ saved-is (last_run k s known m sizing).placer follows.still

  -- ---- so the first two are
  module _ (none : Memory) (g : s.heading.has_grid ≡ true) (one : (passes k s none 0).number ≡ 0) (two : (passes k s none 1).number ≡ 0) where
    abbrev given : Memory
    given = (passes k s none 0).memory

    abbrev first_out : Out Float (EngineState Float)
    first_out = out_of (last_run k s false none true)

    abbrev second_out : Out Float (EngineState Float)
    second_out = out_of (last_run k s true given false)

    first-is : first_f (ops k) yes (head_of_sheet k s) (moves (len k) ms) ≡ accepted first_out
    unfolding known_memory
    first-is = engine-pass false none true (first-pass k s none g one)

    given_is : memory_of given ≡ memory_f first_out
    unfolding passes
    given_is = ap memory_of (memory-is false none true (first-pass k s none g one))

    second_is : later_f (ops k) yes (head_of_sheet k s) (moves (len k) ms) (memory_f first_out) ≡ accepted second_out
    unfolding known_memory
    second_is = ap (λ (m : MemF Float). later_f (ops k) yes (head_of_sheet k s) (moves (len k) ms) m) (sym given_is) ∙ engine-pass true given false (second-pass k s none g two)

    frames-are : second_out.frames ≡ map (λ (x : Cell). edges_of x.frame) (passes k s none 1).cells
    unfolding passes
    frames-are = ap (map (λ (x : Cell). edges_of x.frame)) (sym (second-pass k s none g two).cells)

    by-engine : ByEngine k s none ms (head_of_sheet k s)
    by-engine = record { one = first_out; two = second_out; first = first-is; second = second_is; frames = frames-are }

-- ---- the clause
head-same : (k : ℕ) (a b : Sheet) → GrownSheet a b → head_of_sheet k b ≡ head_of_sheet k a
head-same k a b g = rw g.heading

both-grids : (a b : Sheet) → GrownSheet a b → a.heading.has_grid ≡ true → b.heading.has_grid ≡ true
both-grids a b g t = rw g.heading at t

-- both sheets' records as counts
counts_of : (k B : ℕ) (l : k ≤ 6) (e : B ≡ most k) (a b : Sheet) (m m' : Memory) → GrownSheet a b → WholeSheet k a → WholeSheet k b → a.heading.has_grid ≡ true
    → (passes k a m 0).number ≡ 0 → (passes k b m' 0).number ≡ 0 → Both k B l e a.steps b.steps
counts_of k B l e a b m m' g wa wb t x y =
    let p = first-pass k a m t x in
    let q = first-pass k b m' (both-grids a b g t) y in
    both-counted k B l e a.heading.spacing g.steps wa.steps wb.steps (a.heading.records + 1) (a.heading.records + 1) (grid_start k a false m true) (grid_start k b false m' true) p.run
    (ap (λ (h : Heading). (run_from k h.spacing (h.records + 1) (grid_start k b false m' true) b.steps).number) g.heading ∙ q.run)

-- with the limit of the domain a variable
module _ (k B : ℕ) (l : k ≤ 6) (e : B ≡ most k) (a b : Sheet) (m m' : Memory) where
  abbrev Clause : Type 0
  Clause =
      Forall₂ Frame≤ (frame_ticks k (passes k a m 1).cells) (frame_ticks k (passes k b m' 1).cells)
      × Opened (frame_ticks k (passes k a m 1).cells) (frame_ticks k (passes k b m' 1).cells)

  of-engine : (g : model.Heading) → FineHeading B g → {x y : List model.Step} → model.Grown x y → Fits B x → Fits B y
      → ByEngine k a m x (head_of (pt k B) (len k) g) → ByEngine k b m' y (head_of (pt k B) (len k) g) → Clause
  of-engine g fine grown fx fy x y =
      let r = grids-in-ticks k B l e yes g fine grown fx fy x.one x.two y.one y.two x.first x.second y.first y.second in
      rw (x.frames, y.frames) at r

  in-counts : GrownSheet a b → WholeSheet k a → WholeSheet k b → a.heading.has_grid ≡ true → NoNegativeSpacing a
      → (passes k a m 0).number ≡ 0 → (passes k a m 1).number ≡ 0 → (passes k b m' 0).number ≡ 0 → (passes k b m' 1).number ≡ 0 → Clause
  in-counts g wa wb t n a₀ a₁ b₀ b₁ =
      let c = counts_of k B l e a b m m' g wa wb t a₀ b₀ in
      let h = sheet-headed k B l e a wa n (begun k l a false m true (first-pass k a m t a₀)) in
      let x = by-engine k B l e a c.first c.counts m t a₀ a₁ in
      let y = by-engine k B l e b c.second c.counts' m' (both-grids a b g t) b₀ b₁ in
      of-engine h.heading h.fine c.grown (counts-fit c.counts) (counts-fit c.counts')
      (subst (ByEngine k a m c.first) h.is x) (subst (ByEngine k b m' c.second) (head-same k a b g ∙ h.is) y)

pub grids-grow : (k : ℕ) → k ≤ 6 → (a b : Sheet) (m m' : Memory) → GrownSheet a b → WholeSheet k a → WholeSheet k b → a.heading.has_grid ≡ true → NoNegativeSpacing a
    → (passes k a m 0).number ≡ 0 → (passes k a m 1).number ≡ 0 → (passes k b m' 0).number ≡ 0 → (passes k b m' 1).number ≡ 0
    → Forall₂ (CellNoLess k) (passes k a m 1).cells (passes k b m' 1).cells
    × Open k (passes k a m 1).cells (passes k b m' 1).cells
grids-grow k l a b m m' g wa wb t n a₀ a₁ b₀ b₁ =
    let r = in-counts k (most k) l refl a b m m' g wa wb t n a₀ a₁ b₀ b₁ in
    (frames-no-less k (passes k a m 1).cells (passes k b m' 1).cells r.0, frames-open k (passes k a m 1).cells (passes k b m' 1).cells r.1)
