-- A settled grid of controls stands in columns: each frame is its column, from its start to its end by the widths that the
-- memory has, and each widget stands at its frame's left and is no wider. For steps of 1 to 1/64 point, and any spacing. Assumes nothing.
use Prim.Native.Nat.{ℕ, zero, suc, ◌+◌, ◌≤◌, ◌<◌, max}
use mathlib.Core.Path.{◌≡◌, refl, ap, sym, ◌∙◌, subst}
use mathlib.Core.Bool.{true, false, true≢false}
use mathlib.Core.List.{List, [], ◌∷◌, map, Forall₂}
use native.Mathlib.Omega.{arith}
use native.Mathlib.Numerals.{add-one}
use lib.IntN.{ℤ, pos, nat_abs, ◌+ℤ◌}
use lib.ListN.{length, get_or}
use lib.Ieee.{Float}
use Rattle.emath.specs.Rectangles.{zero_f, max_f, round_rect, intersect}
use Rattle.emath.specs.Steps.{val, most, Edge}
use Rattle.emath.proofs.Whole.{Within, within-unsigned_abs, sum, max_z, max-is, whole}
use Rattle.emath.proofs.Values.{val-add, val-max}
use Rattle.emath.proofs.Rounding.{val-whole}
use Rattle.emath.proofs.Casts.{points-to-steps}
use Rattle.emath.proofs.Sums.{edge-small}
use Rattle.emath.proofs.Tests.{is_lt}
use Rattle.emath.specs.Refusals.{edges_fault}
use Rattle.region.specs.Regions.{expand_to_include_rect as expand_region}
use Rattle.region.specs.Steps.{WholeRect}
use Rattle.layout.specs.Rules.{region_from_max_rect}
use Rattle.emath.specs.declared.Rect.{Rect}
use Rattle.emath.specs.declared.Vec2.{Vec2}
use Rattle.grid.specs.Memories.{widths, col_width}
use Rattle.grid.specs.Grids as grid-rules
use Rattle.grid.specs.Grids.{known_memory, new_grid, next_cell, next_width, prev_col_width, align_size_within_rect, advanced, row_ended}
use Rattle.grid.proofs.Cells.{next-cell-whole, widget-left, widget-right}
use Rattle.grid.specs.declared.GridLayout.{GridLayout}
use Rattle.grid.specs.declared.Memory.{Memory}
use Rattle.placer.specs.Operations.{checked_end_row}
use Rattle.placer.specs.Rules.{new_placer, moved_past, advance_after_rects, expand_to_include_rect, set_cursor, end_row}
use Rattle.placer.specs.declared.Placer.{Placer}
use Rattle.records.specs.Controls.{only_controls}
use Rattle.records.specs.declared.Step.{Step}
use Rattle.records.specs.declared.Step.TheVariants.{Widget, Space, RowHeight, MaxWidth, MaxHeight, MinWidth, MinHeight, RowEnd}
use Rattle.model.proofs.WholeSteps.Model as model
use Rattle.model.proofs.WholeSteps.Model.{lift}
use Rattle.model.proofs.WholeSteps.Lists.{Below, Below-refl, Below-trans, Below-lift, Below-length, Below-get_or, reaches, at_least}
use Rattle.model.proofs.WholeSteps.Settled.{cols_from}
use Rattle.model.proofs.AnyNumbers.Embedding.{Upto, empty, upto, upto-get_or}
use Rattle.model.proofs.InFloats.Ticks.{len, cap}
use Rattle.sheet.specs.Pass.{Sheet, Cell, cell_of, past_cell, widget_step, stepped, run_from}
use Rattle.sheet.specs.Passes.{passes}
use Rattle.sheet.specs.Ticks.{ticks}
use Rattle.sheet.proofs.Runs.{run-goes}
use Rattle.sheet.proofs.Passes.{GridPass, grid-pass, grid_start}
use Rattle.pass_laws.specs.WholeSheets.{WholeSheet, WholeSteps}
use Rattle.pass_laws.proofs.ColumnPlaces.{columns_from, column_widths, width_in, start_of, InColumn, InColumns}
use Rattle.pass_laws.proofs.GridMoves.{GridCell, grid-cell, frame_is, widget-is, row-ended}
use Rattle.pass_laws.proofs.ColumnLaw.{not_negative_lem, edge-not-negative}
use Rattle.pass_laws.proofs.Lists.{entry-get}
use Rattle.pass_laws.proofs.Listed.{Listed}
use Rattle.pass_laws.proofs.Settling.{count, counted, model_steps}
use Rattle.pass_laws.proofs.FurtherPasses.{mw, begins-on-steps, first-gives-back, memory_kept}
use Rattle.pass_laws.proofs.GridStarts.{corner-left, max_self}

-- a cell from a cursor at z steps, in a column of n steps, that a control of u steps stands in
module _ (k : ℕ) (l : k ≤ 6) where
  few-steps : most k ≤ 4194304
  few-steps = omega (arith, cap k (most k) l refl)

  pub back : (z : ℤ) → Within 16777216 z → ticks k (val k z) ≡ z
  back z h = (points-to-steps k (omega arith) z (omega (arith, h))).1

  module _ (g : GridLayout) (c : Rect) (s : Vec2) (z : ℤ) (n u : ℕ) (Z : Within 12582912 z) (u_b : u ≤ n) (n_b : n ≤ most k)
      (at : c.left ≡ val k z) (size : s.x ≡ len k u) (wide : next_width g ≡ len k n) where
    N : n ≤ 4194304
    N = omega (arith, few-steps)

    wider : max_f s.x (next_width g) ≡ val k (pos n)
    wider =
        let e : max_z (pos u) (pos n) ≡ pos n = omega (arith, whole, max-is (pos u) (pos n)) in
        rw (size, wide) (val-max k (omega arith) (pos u) (pos n) (omega (arith, N)) (omega (arith, N)) ∙ ap (val k) e)

    frame-left : (next_cell k g c s).left ≡ val k z
    unfolding next_cell round_rect
    frame-left = rw at (val-whole k z (omega arith) (omega (arith, Z)))

    frame_right : (next_cell k g c s).right ≡ val k (z +ℤ pos n)
    unfolding next_cell round_rect
    frame_right =
        rw (at, wider, val-add k (omega arith) z (pos n) (omega (arith, Z)) (omega (arith, N)))
        (val-whole k (z +ℤ pos n) (omega arith) (omega (arith, Z, sum z (pos n), N)))

    -- the frame's left edge is of the domain, and so is where the cursor was
    module _ (h : edges_fault (next_cell k g c s) ≡ 0) where
      F : WholeRect k (next_cell k g c s)
      F = next-cell-whole k (omega arith) g c s h

      start-few : nat_abs z ≤ most k
      start-few =
          let e = F.left in
          let E = edge-small k (omega arith) e in
          let same : z ≡ e.steps = sym (back z (omega (arith, Z))) ∙ ap (λ (x : Float). ticks k x) (sym frame-left ∙ e.is) ∙ back e.steps (omega (arith, E)) in
          rw same e.few

      filled : (wc : ℕ → ℕ) (left gap : ℤ) (j : ℕ) → z ≡ start_of left gap wc j → n ≡ wc j → InColumn k left gap wc j (record { frame = next_cell k g c s; widget = align_size_within_rect k s (next_cell k g c s) })
      filled wc left gap j ez en =
          let f = next_cell k g c s in
          let w : Edge k s.x = record { steps = pos u; few = omega arith; is = size } in
          let wl = widget-left k (omega arith) s f F.left w in
          let wr : (align_size_within_rect k s f).right ≡ val k (z +ℤ pos u)
          = widget-right k (omega arith) s f F.left w ∙ rw (frame-left, size) (val-add k (omega arith) z (pos u) (omega (arith, Z)) (omega (arith, N))) in
          record {
            frame-left = ap (λ (x : Float). ticks k x) frame-left ∙ back z (omega (arith, Z)) ∙ ez;
            frame_right = ap (λ (x : Float). ticks k x) frame_right ∙ back (z +ℤ pos n) (omega (arith, Z, sum z (pos n), N)) ∙ rw (ez, en);
            widget-left = ap (λ (x : Float). ticks k x) (wl ∙ frame-left) ∙ back z (omega (arith, Z)) ∙ ez;
            width = u;
            widget-right = ap (λ (x : Float). ticks k x) wr ∙ back (z +ℤ pos u) (omega (arith, Z, sum z (pos u), N)) ∙ rw ez;
            narrow = omega (arith, en);
          }

-- ---- a W and an E move the cursor across
pub cursor-past : (sp : Vec2) (p : Placer) (c : Cell) → p.has_grid ≡ true → p.grid.col < 32 → p.grid.row < 128 → (past_cell sp p c).region.cursor ≡ (advanced p.grid p.region.cursor c.widget).cursor
unfolding advance_after_rects moved_past expand_to_include_rect expand_region set_cursor grid-rules.advance
cursor-past sp p c g i j = rw (g, is_lt p.grid.col 32 i, is_lt p.grid.row 128 j)

pub cursor-ended : (sp : Vec2) (p : Placer) → p.has_grid ≡ true → p.grid.row < 128 → (end_row p sp).region.cursor ≡ (row_ended p.grid p.region.cursor).cursor
unfolding end_row set_cursor grid-rules.end_row
cursor-ended sp p g j = rw (g, is_lt p.grid.row 128 j)

-- ---- every control fits its column: what the memory has is at least as wide
pub data Fit (k : ℕ) (cs : List ℕ) : ℕ → List Step → Type 0 where
  none : {j : ℕ} → Fit k cs j []
  control : {j : ℕ} {w h : Float} {rest : List Step} → j < length cs → count k w ≤ get_or cs j 0 → Fit k cs (j + 1) rest → Fit k cs j (Widget w h ∷ rest)
  row_end : {j : ℕ} {rest : List Step} → Fit k cs 0 rest → Fit k cs j (RowEnd ∷ rest)

cols-below : (m j : ℕ) (ks : List ℕ) (l : List model.Step) → Below ks (cols_from m j ks l)
unfolding cols_from
cols-below m j ks [] = Below-refl ks
cols-below m j ks (model.W w h ∷ l) = Below-trans (Below-lift ks j (max w m)) (cols-below m (suc j) (lift ks j (max w m)) l)
cols-below m j ks (model.E ∷ l) = cols-below m 0 ks l

pub fits : (k m j : ℕ) (ks : List ℕ) (steps : List Step) → only_controls steps ≡ true → Fit k (cols_from m j ks (model_steps k steps)) j steps
unfolding only_controls model_steps cols_from
fits k m j ks [] h = none
fits k m j ks (Widget w v ∷ rest) h =
    let up = lift ks j (max (count k w) m) in
    let b = cols-below m (suc j) up (model_steps k rest) in
    let e : suc j ≡ j + 1 = omega arith in
    control {j = j} {w = w} (omega (arith, reaches ks j (max (count k w) m), Below-length b)) (omega (arith, at_least ks j (max (count k w) m), Below-get_or j b))
    (subst (λ (i : ℕ). Fit k (cols_from m (suc j) up (model_steps k rest)) i rest) e (fits k m (suc j) up rest h))
fits k m j ks (RowEnd ∷ rest) h = row_end (fits k m 0 ks rest h)
fits k m j ks (Space a ∷ rest) h = absurd (true≢false (sym h))
fits k m j ks (RowHeight v ∷ rest) h = absurd (true≢false (sym h))
fits k m j ks (MaxWidth w ∷ rest) h = absurd (true≢false (sym h))
fits k m j ks (MaxHeight v ∷ rest) h = absurd (true≢false (sym h))
fits k m j ks (MinWidth w ∷ rest) h = absurd (true≢false (sym h))
fits k m j ks (MinHeight v ∷ rest) h = absurd (true≢false (sym h))

-- ---- the run of a pass that is not sizing, over the widths cs
remembered : (k : ℕ) (m : Memory) (cs : List ℕ) (j : ℕ) (other : Float) → widths m ≡ map (len k) cs → j < length cs → col_width m j other ≡ len k (get_or cs j 0)
unfolding col_width
remembered k m cs j other e h = entry-get (widths m) j other ∙ rw e (got cs j other h)
  where
    got : (cs : List ℕ) (j : ℕ) (other : Float) → j < length cs → get_or (map (len k) cs) j other ≡ len k (get_or cs j 0)
    got [] j other h = absurd (omega arith)
    got (n ∷ cs) zero other h = refl
    got (n ∷ cs) (suc j) other h = got cs j other (omega arith)

module _ (k : ℕ) (l : k ≤ 6) (cs : List ℕ) (few : Upto (most k) cs) (left gap : ℤ) (L : nat_abs left ≤ most k) (G : nat_abs gap ≤ most k) (m : Memory) (are : widths m ≡ map (len k) cs) where
  abbrev wide : ℕ → ℕ
  wide = width_in cs

  -- where the run is, with the cursor at column j
  pub record At (j : ℕ) (p : Placer) : Type 0 where
    pub grid : p.has_grid ≡ true
    pub col : p.grid.col ≡ j
    pub given : p.grid.prev_state ≡ m
    pub settled : p.grid.sizing_pass ≡ false
    pub gap_is : p.grid.spacing.x ≡ val k gap
    pub begins : p.grid.initial_available.left ≡ val k left
    pub start : p.region.cursor.left ≡ val k (start_of left gap wide j)
    pub near : Within 12582912 (start_of left gap wide j)

  column-few : (j : ℕ) → get_or cs j 0 ≤ most k
  column-few j = upto-get_or j 0 (omega arith) few

  module _ (sp : Vec2) (j : ℕ) (p : Placer) (i : At j p) where
    -- a W
    module _ (s : Vec2) (a : GridCell k sp p s) (e : Edge k s.x) (b : j < length cs) (c : count k s.x ≤ get_or cs j 0) where
      sized : s.x ≡ len k (count k s.x)
      sized = (counted k l s.x e (edge-not-negative k (omega arith) s.x e (not_negative_lem s a.placed.size).0)).0

      room : next_width p.grid ≡ len k (get_or cs j 0)
      unfolding next_width
      room = rw (i.settled, i.given, i.col) (remembered k m cs j zero_f are b)

      frame-fault : edges_fault (next_cell k p.grid p.region.cursor s) ≡ 0
      frame-fault = rw (frame_is k sp p s i.grid) at a.placed.frame

      cell-filled : InColumn k left gap wide j (cell_of k sp p s)
      cell-filled =
          let q = filled k l p.grid p.region.cursor s (start_of left gap wide j) (get_or cs j 0) (count k s.x) i.near c (column-few j) i.start sized room frame-fault wide left gap j refl refl in
          subst (InColumn k left gap wide j) (both _ _ _ _ (sym (frame_is k sp p s i.grid)) (sym (widget-is k sp p s i.grid))) q
        where
          both : (f f' w w' : Rect) → f ≡ f' → w ≡ w' → ◌≡◌ {A = Cell} (record { frame = f; widget = w }) (record { frame = f'; widget = w' })
          both f f' w w' x y = rw (x, y)

      cursor-on : (advanced p.grid p.region.cursor (cell_of k sp p s).widget).cursor.left ≡ val k (start_of left gap wide (j + 1))
      unfolding advanced prev_col_width start_of
      cursor-on =
          let n = get_or cs j 0 in
          let z = start_of left gap wide j in
          let g = within-unsigned_abs {n = 4194304} gap (omega (arith, G, few-steps k l)) in
          let N : n ≤ 4194304 = omega (arith, column-few j, few-steps k l) in
          let d : z +ℤ (pos n +ℤ gap) ≡ z +ℤ pos n +ℤ gap = omega (arith, whole, sum z (pos n +ℤ gap), sum (pos n) gap, sum (z +ℤ pos n) gap, sum z (pos n)) in
          let across : prev_col_width p.grid p.grid.col ≡ len k n = rw (i.given, i.col) (remembered k m cs j p.grid.min_cell_size.x are b) in
          rw (add-one j, i.start, across, i.gap_is, val-add k (omega arith) (pos n) gap (omega (arith, N)) (omega (arith, g)))
          (val-add k (omega arith) z (pos n +ℤ gap) (omega (arith, i.near)) (omega (arith, sum (pos n) gap, N, g)) ∙ ap (val k) d)

      control-at : At (j + 1) (widget_step sp p s (cell_of k sp p s)).placer
      unfolding advanced start_of
      control-at =
          let q = a.placed.placer in
          let g = within-unsigned_abs {n = 4194304} gap (omega (arith, G, few-steps k l)) in
          let z = start_of left gap wide j in
          let near = start-few k l p.grid p.region.cursor s z (get_or cs j 0) (count k s.x) i.near c (column-few j) i.start sized room frame-fault in
          let Z = within-unsigned_abs {n = 4194304} z (omega (arith, near, few-steps k l)) in
          record {
            grid = a.still;
            col = ap (λ (x : GridLayout). x.col) a.grid ∙ ap (λ (n : ℕ). n + 1) i.col;
            given = ap (λ (x : GridLayout). x.prev_state) a.grid ∙ i.given;
            settled = ap (λ (x : GridLayout). x.sizing_pass) a.grid ∙ i.settled;
            gap_is = ap (λ (x : GridLayout). x.spacing.x) a.grid ∙ i.gap_is;
            begins = ap (λ (x : GridLayout). x.initial_available.left) a.grid ∙ i.begins;
            start = ap (λ (x : Placer). x.region.cursor.left) q ∙ ap (λ (x : Rect). x.left) (cursor-past sp p (cell_of k sp p s) i.grid a.col a.row) ∙ cursor-on;
            near = rw add-one (omega (arith, Z, g, sum (z +ℤ pos (get_or cs j 0)) gap, sum z (pos (get_or cs j 0)), column-few j, few-steps k l));
          }

    -- an E
    row_at : (checked_end_row p sp).number ≡ 0 → At 0 (checked_end_row p sp).placer
    unfolding row_ended start_of
    row_at n =
        let a = row-ended sp p i.grid n in
        let Z = within-unsigned_abs {n = 4194304} left (omega (arith, L, few-steps k l)) in
        record {
          grid = a.still;
          col = ap (λ (x : GridLayout). x.col) a.grid;
          given = ap (λ (x : GridLayout). x.prev_state) a.grid ∙ i.given;
          settled = ap (λ (x : GridLayout). x.sizing_pass) a.grid ∙ i.settled;
          gap_is = ap (λ (x : GridLayout). x.spacing.x) a.grid ∙ i.gap_is;
          begins = ap (λ (x : GridLayout). x.initial_available.left) a.grid ∙ i.begins;
          start = ap (λ (x : Placer). x.region.cursor.left) a.is ∙ ap (λ (x : Rect). x.left) (cursor-ended sp p i.grid a.row) ∙ i.begins;
          near = omega (arith, Z);
        }

  module _ (sp : Vec2) where
    abbrev Law : ℕ → List Step → Type 0
    Law j steps = (n : ℕ) (p : Placer) → At j p → (run_from k sp n p steps).number ≡ 0 → InColumns k left gap wide (columns_from j steps) (run_from k sp n p steps).cells

    one_more : (j n : ℕ) (p : Placer) (w h : Float) (rest : List Step) → Edge k w → j < length cs → count k w ≤ get_or cs j 0 → At j p → Law (j + 1) rest
        → (run_from k sp n p (Widget w h ∷ rest)).number ≡ 0 → InColumns k left gap wide (j ∷ columns_from (j + 1) rest) (run_from k sp n p (Widget w h ∷ rest)).cells
    unfolding stepped widget_step
    one_more j n p w h rest e b c i ih z =
        let r = run-goes k sp n p (Widget w h) rest z in
        let s : Vec2 = record { x = w; y = h } in
        let a = grid-cell k sp p s i.grid r.this in
        rw r.cells (Forall₂.cons (cell-filled sp j p i s a e b c) (ih (n + 1) (stepped k sp p (Widget w h)).placer (control-at sp j p i s a e b c) r.rest))

    in-columns : {j : ℕ} {steps : List Step} → Fit k cs j steps → WholeSteps k steps → Law j steps
    unfolding run_from columns_from stepped
    in-columns none w n p i z = Forall₂.nil
    in-columns (control {j = j} {w = x} {h = y} {rest = rest} b c t) (WholeSteps.control ew eh w) n p i z = one_more j n p x y rest ew b c i (in-columns t w) z
    in-columns (row_end {j = j} {rest = rest} t) (WholeSteps.row_end w) n p i z =
        let r = run-goes k sp n p RowEnd rest z in
        rw r.cells (in-columns t w (n + 1) (stepped k sp p RowEnd).placer (row_at sp j p i r.this) r.rest)

-- ---- a settled grid
module _ (k : ℕ) (l : k ≤ 6) (s : Sheet) (w : WholeSheet k s) (g : s.heading.has_grid ≡ true) (only : only_controls s.steps ≡ true) (none₀ : Memory)
    (one : (passes k s none₀ 0).number ≡ 0) (two : (passes k s none₀ 1).number ≡ 0) where
  abbrev first : Memory
  first = (passes k s none₀ 0).memory

  abbrev counts : List ℕ
  counts = cols_from (mw k l s w) 0 [] (model_steps k s.steps)

  pub settled-listed : (rows : List ℕ) × Listed k counts rows first
  settled-listed = let b = first-gives-back k l s w g none₀ one in (b.0, b.2)

  -- the widths of its memory, which both passes give
  pub widths-counted : column_widths k (passes k s none₀ 1).memory ≡ counts
  widths-counted = rw (memory_kept k l s w g none₀ one two, settled-listed.1.cols.are) (again counts settled-listed.1.cols.few)
    where
      again : (cs : List ℕ) → Upto (most k) cs → map (λ (x : Float). nat_abs (ticks k x)) (map (len k) cs) ≡ cs
      again [] empty = refl
      again (n ∷ cs) (upto b u) = rw (back k l (pos n) (omega (arith, few-steps k l, b)), again cs u)

  second : GridPass k s true first false
  unfolding passes
  second = grid-pass k s true first false g two

  begins-at : At k l counts settled-listed.1.cols.few w.rect.left.steps w.spacing.x.steps w.rect.left.few w.spacing.x.few first settled-listed.1.cols.are 0 (grid_start k s true first false)
  unfolding new_placer new_grid start_of known_memory intersect region_from_max_rect
  begins-at =
      let e = corner-left s.heading.layout.main_dir s.heading.max_rect (begins-on-steps k l s w true first false second).fits in
      record {
        grid = refl;
        col = refl;
        given = refl;
        settled = refl;
        gap_is = w.spacing.x.is;
        begins = rw (e, max_self s.heading.max_rect.left) w.rect.left.is;
        start = rw e w.rect.left.is;
        near = let z = edge-small k (omega arith) w.rect.left in omega (arith, z);
      }

  edge-counted : {x : Float} (e : Edge k x) → e.steps ≡ ticks k x
  edge-counted {x} e = let z = edge-small k (omega arith) e in sym (ap (λ (y : Float). ticks k y) e.is ∙ back k l e.steps (omega (arith, z)))

  -- each cell in its column
  pub stands-in-columns : InColumns k (ticks k s.heading.max_rect.left) (ticks k s.heading.spacing.x) (width_in (column_widths k (passes k s none₀ 1).memory)) (columns_from 0 s.steps) (passes k s none₀ 1).cells
  unfolding passes
  stands-in-columns =
      let f = fits k (mw k l s w) 0 [] s.steps only in
      let r = in-columns k l counts settled-listed.1.cols.few w.rect.left.steps w.spacing.x.steps w.rect.left.few w.spacing.x.few first settled-listed.1.cols.are s.heading.spacing f w.steps (s.heading.records + 1) (grid_start k s true first false) begins-at second.run in
      rw (widths-counted, ← edge-counted w.rect.left, ← edge-counted w.spacing.x, second.cells) r
