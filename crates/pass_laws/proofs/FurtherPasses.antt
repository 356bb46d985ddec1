-- All further passes: the second pass of an accepted grid sheet, of any records, gives back the memory that it was given, so every pass after
-- it is the same. For steps of 1 to 1/64 point. Assumes nothing.
use Prim.Native.Nat.{ℕ, zero, suc, ◌+◌, ◌≤◌}
use mathlib.Core.Path.{◌≡◌, refl, ap, sym, ◌∙◌, subst}
use mathlib.Core.Bool.{Bool, true, false}
use mathlib.Core.List.{List, [], map}
use native.Mathlib.Omega.{arith}
use Rattle.emath.specs.Steps.{most, Edge}
use Rattle.emath.specs.Refusals.{least, size_fault}
use Rattle.emath.proofs.Refusals.{lesser-none, when-none}
use Rattle.emath.specs.declared.Rect.{Rect}
use Rattle.emath.specs.declared.Vec2.{Vec2}
use Rattle.region.specs.Refusals.{closed, region_fault}
use Rattle.region.specs.Steps.{WholeCursor}
use Rattle.region.specs.declared.Direction.{Direction}
use Rattle.region.specs.declared.Direction.TheVariants.{LeftToRight, RightToLeft, TopDown, BottomUp}
use Rattle.grid.specs.Memories.{heights}
use Rattle.grid.specs.Grids.{known_memory, new_grid}
use Rattle.grid.specs.Refusals.{grid_fault, fits_grid, direction_fault}
use Rattle.grid.specs.declared.Memory.{Memory}
use Rattle.placer.specs.Refusals.{placer_fault, grid_part}
use Rattle.placer.proofs.Answers.{placer-grid}
use Rattle.placer.proofs.WholeCalls.{new-whole}
use Rattle.placer.proofs.Carried.{new-sound, new-down}
use Rattle.placer.specs.declared.Placer.{Placer}
use Rattle.model.proofs.WholeSteps.Heights.{Run, heights-kept}
use Rattle.model.proofs.WholeSteps.Settled.{cols_from}
use Rattle.model.proofs.AnyNumbers.Embedding.{Upto, empty}
use Rattle.model.proofs.InFloats.Ticks.{len}
use Rattle.sheet.specs.Pass.{Sheet, Outcome, run_from, pass}
use Rattle.sheet.specs.Passes.{passes}
use Rattle.pass_laws.specs.WholeSheets.{WholeSheet}
use Rattle.sheet.proofs.Passes.{GridPass, grid-pass, start, grid_start}
use Rattle.pass_laws.proofs.GridTops.{OnSteps}
use Rattle.pass_laws.proofs.ColumnLaw.{saved-is, not_negative_lem, least-cell, edge-not-negative}
use Rattle.pass_laws.proofs.Listed.{Listed, listed-empty, same_memory_lem}
use Rattle.pass_laws.proofs.Settling.{count, counted, model_steps, At, settles}

-- a grid is on direction 0 or 2
grid-fits : (p : Placer) → p.has_grid ≡ true → placer_fault p ≡ 0 → fits_grid p.layout.main_dir ≡ true
unfolding placer_fault least grid_part direction_fault
grid-fits p g h =
    let a = (lesser-none (region_fault p.layout.main_dir p.region) _ h).1 in
    when-none (fits_grid p.layout.main_dir) 6 (lesser-none (grid_fault p.grid) _ (rw g at a)).1

cursor-top : (k : ℕ) (d : Direction) (c : Rect) → fits_grid d ≡ true → WholeCursor k d c → Edge k c.top
unfolding fits_grid closed
cursor-top k LeftToRight c f w = w.top
cursor-top k TopDown c f w = w.top
cursor-top k RightToLeft c f w = absurd (let z : ◌≡◌ {A = ℕ} 0 1 = cc in omega arith)
cursor-top k BottomUp c f w = absurd (let z : ◌≡◌ {A = ℕ} 0 1 = cc in omega arith)

module _ (k : ℕ) (l : k ≤ 6) (s : Sheet) (w : WholeSheet k s) where
  abbrev pub mw : ℕ
  mw = count k s.heading.options.min_cell_size.x

  abbrev mh : ℕ
  mh = count k s.heading.options.min_cell_size.y

  module _ (known : Bool) (m : Memory) (sizing : Bool) (p : GridPass k s known m sizing) where
    abbrev begins : Placer
    begins = grid_start k s known m sizing

    -- the grid starts in whole steps
    pub begins-on-steps : OnSteps k begins
    begins-on-steps =
        let f = grid-fits begins refl p.fault in
        let n = new-whole k l s.heading.max_rect s.heading.layout w.rect p.begin in
        record {
          grid = refl;
          fits = f;
          sound = new-sound (start k s known m sizing).region known m sizing s.heading.spacing s.heading.options.min_cell_size s.heading.options.max_cell_size s.heading.options.num_columns s.heading.options.start_row;
          down = new-down (start k s known m sizing).region known m sizing s.heading.spacing s.heading.options.min_cell_size s.heading.options.max_cell_size s.heading.options.num_columns s.heading.options.start_row k w.smallest.y w.spacing.y;
          tops = record { inner = n.inner; outer = n.outer; top = cursor-top k begins.layout.main_dir begins.region.cursor f n.cursor };
        }

    least-is : begins.grid.min_cell_size ≡ s.heading.options.min_cell_size
    unfolding new_grid
    least-is = refl

    -- the least cell, counted
    least-counted : (s.heading.options.min_cell_size.x ≡ len k mw) × (mw ≤ most k) × (s.heading.options.min_cell_size.y ≡ len k mh) × (mh ≤ most k)
    least-counted =
        let z = not_negative_lem s.heading.options.min_cell_size (ap (λ (v : Vec2). size_fault v) (sym least-is) ∙ least-cell begins.grid (placer-grid begins refl p.fault)) in
        let a = counted k l s.heading.options.min_cell_size.x w.smallest.x (edge-not-negative k (omega arith) s.heading.options.min_cell_size.x w.smallest.x z.0) in
        let b = counted k l s.heading.options.min_cell_size.y w.smallest.y (edge-not-negative k (omega arith) s.heading.options.min_cell_size.y w.smallest.y z.1) in
        (a.0, a.1, b.0, b.1)

    module _ (given : List ℕ) (few : Upto (most k) given) (are : heights (known_memory known m) ≡ map (len k) given) where
      abbrev last : Placer
      last = (run_from k s.heading.spacing (s.heading.records + 1) begins s.steps).placer

      begins-at : At k l mw mh least-counted.1 least-counted.3 given few s.heading.options.start_row 0 [] [] begins
      unfolding new_grid
      begins-at = record {
        steps = begins-on-steps;
        row_is = refl;
        col-is = refl;
        least-width = least-counted.0;
        least-height = least-counted.2;
        listed = listed-empty k;
        given-are = are;
      }

      -- what the pass gives back
      pub gives_back : (rows : List ℕ) × Run mh given s.heading.options.start_row [] (model_steps k s.steps) rows × Listed k (cols_from mw 0 [] (model_steps k s.steps)) rows (pass k s known m sizing).memory
      gives_back =
          let t = settles k l mw mh least-counted.1 least-counted.3 given few s.heading.spacing w.steps (s.heading.records + 1) s.heading.options.start_row 0 [] [] begins begins-at p.run in
          let e = p.memory ∙ saved-is last t.at.steps.grid in
          (t.rows, t.run, subst (Listed k _ t.rows) (sym e) t.at.listed)

  -- ---- the second pass gives back what it was given
  module _ (g : s.heading.has_grid ≡ true) (none : Memory) (one : (passes k s none 0).number ≡ 0) where
    -- the first one begins with no heights, whatever stands beside its flag
    pub first-gives-back : (rows : List ℕ) × Run mh [] s.heading.options.start_row [] (model_steps k s.steps) rows × Listed k (cols_from mw 0 [] (model_steps k s.steps)) rows (passes k s none 0).memory
    unfolding passes known_memory
    first-gives-back = gives_back _ none true (grid-pass k s _ none true g one) [] empty refl

    module _ (two : (passes k s none 1).number ≡ 0) where
      pub memory_kept : (passes k s none 1).memory ≡ (passes k s none 0).memory
      unfolding passes known_memory
      memory_kept =
          let a = first-gives-back in
          let m = (pass k s false none true).memory in
          let b = gives_back true m false (grid-pass k s true m false g two) a.0 a.2.rows.few a.2.rows.are in
          let e : b.0 ≡ a.0 = heights-kept a.1 b.1 in
          let cols = cols_from mw 0 [] (model_steps k s.steps) in
          same_memory_lem k cols a.0 (pass k s true m false).memory m (subst (λ (r : List ℕ). Listed k cols r (pass k s true m false).memory) e b.2) a.2

      -- and so all after it are the second again
      pub further-passes : (n : ℕ) → passes k s none (suc n) ≡ passes k s none 1
      unfolding passes
      further-passes zero = refl
      further-passes (suc n) = ap (λ (m : Memory). pass k s true m false) (ap (λ (o : Outcome). o.memory) (further-passes n) ∙ memory_kept)
