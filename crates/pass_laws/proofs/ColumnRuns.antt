-- The column law of a run: after any accepted records of a grid, in whatever state and with whatever memory it was, a column's width is what
-- it was, raised by the controls of that column and nothing else. Assumes nothing.
use Prim.Native.Nat.{ℕ, ◌+◌, ◌≤◌, ◌<◌}
use mathlib.Core.Path.{◌≡◌, refl, ap, ◌∙◌}
use mathlib.Core.Bool.{Bool, true, false, cond}
use mathlib.Core.List.{List, [], ◌∷◌}
use native.Mathlib.Omega.{arith}
use lib.Dec.{eqb}
use borrow.Author.Tests.{eqb-true}
use lib.ListN.{length}
use lib.Ieee.{Float}
use Rattle.emath.specs.Rectangles.{zero_f, max_f, width}
use Rattle.emath.specs.Steps.{Edge}
use Rattle.emath.proofs.Tests.{is_lt}
use Rattle.emath.specs.declared.Rect.{Rect}
use Rattle.emath.specs.declared.Vec2.{Vec2}
use Rattle.grid.specs.Memories.{col_width, raised_count}
use Rattle.grid.specs.Grids as grid-rules
use Rattle.grid.specs.Grids.{noted, advanced, row_ended}
use Rattle.grid.proofs.Advances.{Sound}
use Rattle.grid.specs.declared.GridLayout.{GridLayout}
use Rattle.grid.specs.declared.Memory.{Memory}
use Rattle.placer.proofs.Carried.{advance-sound}
use Rattle.placer.specs.Operations.{checked_end_row}
use Rattle.placer.specs.declared.Placer.{Placer}
use Rattle.records.specs.declared.Step.{Step}
use Rattle.records.specs.declared.Step.TheVariants.{Widget, RowEnd}
use Rattle.sheet.specs.Pass.{stepped, run_from, cell_of, widget_step}
use Rattle.pass_laws.specs.WholeSheets.{WholeSteps, none, control, space, row_height, max_width, max_height, min_width, min_height, row_end}
use Rattle.pass_laws.specs.Columns.{in_column}
use Rattle.sheet.proofs.Runs.{run-goes}
use Rattle.pass_laws.proofs.GridMoves.{grid-cell, control-width, row-ended, Other, left_alone}
use Rattle.pass_laws.proofs.ColumnWidths.{noted-width, noted-cols, count-grows, count-reaches}

-- a width raised by controls, each to its own width or the minimum
unfoldable pub raised_by : Float → Float → List Float → Float
raised_by smallest e [] = e
raised_by smallest e (w ∷ ws) = raised_by smallest (max_f e (max_f w smallest)) ws

-- what a grid is like where a run is
pub record InGrid (smallest : Float) (p : Placer) : Type 0 where
  pub grid : p.has_grid ≡ true
  pub sound : Sound p.grid.curr_state
  pub least : p.grid.min_cell_size.x ≡ smallest

-- from p to q the controls of widths ws were in column c
pub record Raised (smallest : Float) (c : ℕ) (ws : List Float) (p q : Placer) : Type 0 where
  pub inside : InGrid smallest q
  pub width : col_width q.grid.curr_state c zero_f ≡ raised_by smallest (col_width p.grid.curr_state c zero_f) ws
  pub more : p.grid.curr_state.cols ≤ q.grid.curr_state.cols
  pub counted : 0 < length ws → c < q.grid.curr_state.cols

-- ---- the grid after a W
pub advanced-sound : (g : GridLayout) (c v : Rect) → g.col < 32 → g.row < 128 → Sound g.curr_state → Sound (advanced g c v).grid.curr_state
unfolding grid-rules.advance
advanced-sound g c v i j s = rw (is_lt g.col 32 i, is_lt g.row 128 j) at (advance-sound g c v s)

pub advanced-is : (g : GridLayout) (c v : Rect) → ((advanced g c v).grid.curr_state ≡ noted g v) × ((advanced g c v).grid.col ≡ g.col + 1) × ((advanced g c v).grid.min_cell_size ≡ g.min_cell_size)
unfolding advanced
advanced-is g c v = (refl, refl, refl)

pub ended_is : (g : GridLayout) (c : Rect) → ((row_ended g c).grid.curr_state ≡ g.curr_state) × ((row_ended g c).grid.col ≡ 0) × ((row_ended g c).grid.min_cell_size ≡ g.min_cell_size)
unfolding row_ended
ended_is g c = (refl, refl, refl)

-- ---- a control more, in this column or another
one_more : (smallest w e e₁ r : Float) (b : Bool) (ws : List Float) → e₁ ≡ cond b (max_f e (max_f w smallest)) e → r ≡ raised_by smallest e₁ ws → r ≡ raised_by smallest e (cond b (w ∷ ws) ws)
unfolding raised_by
one_more smallest w e e₁ r true ws p q = q ∙ ap (λ (x : Float). raised_by smallest x ws) p
one_more smallest w e e₁ r false ws p q = q ∙ ap (λ (x : Float). raised_by smallest x ws) p

seen : (j c n m : ℕ) (w : Float) (b : Bool) (ws : List Float) → eqb j c ≡ b → j + 1 ≤ n → n ≤ m → (0 < length ws → c < m) → 0 < length (cond b (w ∷ ws) ws) → c < m
seen j c n m w true ws e p q f h = omega (arith, eqb-true j c e)
seen j c n m w false ws e p q f h = f h

module _ (smallest : Float) (c : ℕ) where
  -- what a W does to column c
  record Controlled (w : Float) (p q : Placer) : Type 0 where
    pub inside : InGrid smallest q
    pub col : q.grid.col ≡ p.grid.col + 1
    pub width : col_width q.grid.curr_state c zero_f ≡ cond (eqb p.grid.col c) (max_f (col_width p.grid.curr_state c zero_f) (max_f w smallest)) (col_width p.grid.curr_state c zero_f)
    pub more : p.grid.curr_state.cols ≤ q.grid.curr_state.cols
    pub reaches : p.grid.col + 1 ≤ q.grid.curr_state.cols

  join-control : (w : Float) (ws : List Float) (p p₁ q : Placer) → Controlled w p p₁ → Raised smallest c ws p₁ q → Raised smallest c (cond (eqb p.grid.col c) (w ∷ ws) ws) p q
  join-control w ws p p₁ q a r = record {
    inside = r.inside;
    width = one_more smallest w (col_width p.grid.curr_state c zero_f) _ _ (eqb p.grid.col c) ws a.width r.width;
    more = omega (arith, a.more, r.more);
    counted = λ h. seen p.grid.col c p₁.grid.curr_state.cols q.grid.curr_state.cols w (eqb p.grid.col c) ws refl a.reaches r.more r.counted h;
  }

  -- where a record leaves this pass's memory alone
  join-same : (ws : List Float) (p p₁ q : Placer) → p₁.grid.curr_state ≡ p.grid.curr_state → Raised smallest c ws p₁ q → Raised smallest c ws p q
  join-same ws p p₁ q e r = record {
    inside = r.inside;
    width = r.width ∙ ap (λ (m : Memory). raised_by smallest (col_width m c zero_f) ws) e;
    more = omega (arith, ap (λ (m : Memory). m.cols) e, r.more);
    counted = r.counted;
  }

  moved_in : (g : GridLayout) (p q : Placer) → q.has_grid ≡ true → q.grid ≡ g → Sound g.curr_state → g.min_cell_size ≡ p.grid.min_cell_size → InGrid smallest p → InGrid smallest q
  moved_in g p q t e s m i = record { grid = t; sound = rw e s; least = ap (λ (x : GridLayout). x.min_cell_size.x) e ∙ ap (λ (v : Vec2). v.x) m ∙ i.least }

  noted_here : (p q : Placer) (v : Rect) (w : Float) → InGrid smallest p → q.grid.curr_state ≡ noted p.grid v → p.grid.col < 32 → width v ≡ w
      → col_width q.grid.curr_state c zero_f ≡ cond (eqb p.grid.col c) (max_f (col_width p.grid.curr_state c zero_f) (max_f w smallest)) (col_width p.grid.curr_state c zero_f)
  noted_here p q v w i em h ew =
      let b = eqb p.grid.col c in
      let e = col_width p.grid.curr_state c zero_f in
      ap (λ (m : Memory). col_width m c zero_f) em ∙ noted-width p.grid v c i.sound h
      ∙ ap (λ (x : Float). cond b (max_f e (max_f x p.grid.min_cell_size.x)) e) ew ∙ ap (λ (x : Float). cond b (max_f e (max_f w x)) e) i.least

  module _ (k : ℕ) (l : k ≤ 7) (sp : Vec2) (p : Placer) (i : InGrid smallest p) where
    controlled : (w h : Float) → Edge k w → (stepped k sp p (Widget w h)).number ≡ 0 → Controlled w p (stepped k sp p (Widget w h)).placer
    unfolding stepped
    controlled w h e n =
        let s : Vec2 = record { x = w; y = h } in
        let a = grid-cell k sp p s i.grid n in
        let v = (cell_of k sp p s).widget in
        let g = (advanced p.grid p.region.cursor v).grid in
        let q = (widget_step sp p s (cell_of k sp p s)).placer in
        let d = advanced-is p.grid p.region.cursor v in
        let ew = control-width k l sp p s i.grid e a in
        let cols : q.grid.curr_state.cols ≡ raised_count p.grid.curr_state.cols (p.grid.col + 1)
        = ap (λ (x : GridLayout). x.curr_state.cols) a.grid ∙ ap (λ (m : Memory). m.cols) d.0 ∙ noted-cols p.grid v a.col in
        record {
          inside = moved_in g p q a.still a.grid (advanced-sound p.grid p.region.cursor v a.col a.row i.sound) d.2 i;
          col = ap (λ (x : GridLayout). x.col) a.grid ∙ d.1;
          width = noted_here p q v w i (ap (λ (x : GridLayout). x.curr_state) a.grid ∙ d.0) a.col ew;
          more = omega (arith, cols, count-grows p.grid.curr_state.cols (p.grid.col + 1));
          reaches = omega (arith, cols, count-reaches p.grid.curr_state.cols (p.grid.col + 1));
        }

    -- an E: the next W has column 0
    row_done : (stepped k sp p RowEnd).number ≡ 0
        → InGrid smallest (stepped k sp p RowEnd).placer × ((stepped k sp p RowEnd).placer.grid.curr_state ≡ p.grid.curr_state) × ((stepped k sp p RowEnd).placer.grid.col ≡ 0)
    unfolding stepped
    row_done n =
        let a = row-ended sp p i.grid n in
        let d = ended_is p.grid p.region.cursor in
        let q = (checked_end_row p sp).placer in
        (moved_in (row_ended p.grid p.region.cursor).grid p q a.still a.grid (rw d.0 i.sound) d.2 i, ap (λ (x : GridLayout). x.curr_state) a.grid ∙ d.0, ap (λ (x : GridLayout). x.col) a.grid ∙ d.1)

    -- any other record
    passed : {st : Step} → Other st → (stepped k sp p st).number ≡ 0
        → InGrid smallest (stepped k sp p st).placer × ((stepped k sp p st).placer.grid.curr_state ≡ p.grid.curr_state) × ((stepped k sp p st).placer.grid.col ≡ p.grid.col)
    passed {st} o n =
        let a = left_alone k sp p o n in
        (moved_in p.grid p (stepped k sp p st).placer (a.still ∙ i.grid) a.grid i.sound refl i, ap (λ (x : GridLayout). x.curr_state) a.grid, ap (λ (x : GridLayout). x.col) a.grid)

  -- ---- the run
  module _ (k : ℕ) (l : k ≤ 7) (sp : Vec2) where
    abbrev Law : ℕ → Placer → List Step → Type 0
    Law n p steps = InGrid smallest p → (run_from k sp n p steps).number ≡ 0 → Raised smallest c (in_column c p.grid.col steps) p (run_from k sp n p steps).placer

    -- what the rest gives, from the placer that the record leaves, is what the whole run gives
    to_the_end : (n : ℕ) (p : Placer) (st : Step) (rest : List Step) (ws : List Float) → (g : (run_from k sp n p (st ∷ rest)).number ≡ 0)
        → Raised smallest c ws p (run_from k sp (n + 1) (stepped k sp p st).placer rest).placer → Raised smallest c ws p (run_from k sp n p (st ∷ rest)).placer
    to_the_end n p st rest ws g r = rw (run-goes k sp n p st rest g).placer r

    other-law : (n : ℕ) (p : Placer) {st : Step} (rest : List Step) → Other st → ((q : Placer) → Law (n + 1) q rest) → InGrid smallest p → (run_from k sp n p (st ∷ rest)).number ≡ 0
        → Raised smallest c (in_column c p.grid.col rest) p (run_from k sp n p (st ∷ rest)).placer
    other-law n p {st} rest o ih i g =
        let r = run-goes k sp n p st rest g in
        let a = passed k l sp p i o r.this in
        let q = (stepped k sp p st).placer in
        to_the_end n p st rest (in_column c p.grid.col rest) g
        (rw a.2 at (join-same (in_column c q.grid.col rest) p q _ a.1 (ih q a.0 r.rest)))

    control-law : (n : ℕ) (p : Placer) (w h : Float) (rest : List Step) → Edge k w → ((q : Placer) → Law (n + 1) q rest) → Law n p (Widget w h ∷ rest)
    unfolding in_column
    control-law n p w h rest e ih i g =
        let r = run-goes k sp n p (Widget w h) rest g in
        let a = controlled k l sp p i w h e r.this in
        let q = (stepped k sp p (Widget w h)).placer in
        to_the_end n p (Widget w h) rest (cond (eqb p.grid.col c) (w ∷ in_column c (p.grid.col + 1) rest) (in_column c (p.grid.col + 1) rest)) g
        (join-control w (in_column c (p.grid.col + 1) rest) p q _ a (rw a.col at (ih q a.inside r.rest)))

    row-law : (n : ℕ) (p : Placer) (rest : List Step) → ((q : Placer) → Law (n + 1) q rest) → Law n p (RowEnd ∷ rest)
    unfolding in_column
    row-law n p rest ih i g =
        let r = run-goes k sp n p RowEnd rest g in
        let a = row_done k l sp p i r.this in
        let q = (stepped k sp p RowEnd).placer in
        to_the_end n p RowEnd rest (in_column c 0 rest) g (rw a.2 at (join-same (in_column c q.grid.col rest) p q _ a.1 (ih q a.0 r.rest)))

    none-law : (n : ℕ) (p : Placer) → Law n p []
    unfolding run_from in_column raised_by
    none-law n p i g = record { inside = i; width = refl; more = omega arith; counted = λ h. absurd (omega (arith, h)) }

    pub column-run : {steps : List Step} → WholeSteps k steps → (n : ℕ) (p : Placer) → Law n p steps
    unfolding in_column
    column-run none n p = none-law n p
    column-run (control {w = w} {h = h} {rest = rest} ew eh t) n p = control-law n p w h rest ew (λ q. column-run t (n + 1) q)
    column-run (row_end {rest = rest} t) n p = row-law n p rest (λ q. column-run t (n + 1) q)
    column-run (space {rest = rest} e t) n p = other-law n p rest Other.space (λ q. column-run t (n + 1) q)
    column-run (row_height {rest = rest} e t) n p = other-law n p rest Other.row_height (λ q. column-run t (n + 1) q)
    column-run (max_width {rest = rest} e t) n p = other-law n p rest Other.max_width (λ q. column-run t (n + 1) q)
    column-run (max_height {rest = rest} e t) n p = other-law n p rest Other.max_height (λ q. column-run t (n + 1) q)
    column-run (min_width {rest = rest} e t) n p = other-law n p rest Other.min_width (λ q. column-run t (n + 1) q)
    column-run (min_height {rest = rest} e t) n p = other-law n p rest Other.min_height (λ q. column-run t (n + 1) q)
