-- Through an accepted run of any records a grid's memory is two lists of whole numbers: the columns' are those of the controls alone, the
-- rows' lie between the controls' heights and the frames', so they settle. For steps of 1 to 1/64 point. Assumes nothing.
use Prim.Native.Nat.{ℕ, suc, ◌+◌, ◌≤◌, max}
use mathlib.Core.Path.{◌≡◌, refl, ap, sym, ◌∙◌, subst}
use mathlib.Core.List.{List, [], ◌∷◌, map}
use native.Mathlib.Omega.{arith}
use lib.ListN.{get_or}
use lib.IntN.{ℤ, pos, negsuc, nat_abs}
use lib.Ieee.{Float}
use Rattle.emath.specs.Rectangles.{height}
use Rattle.emath.specs.Steps.{val, most, Edge}
use Rattle.emath.proofs.Whole.{Within, ◌≤ᶻ◌}
use Rattle.emath.proofs.Casts.{points-to-steps}
use Rattle.emath.proofs.Sums.{edge-small}
use Rattle.emath.specs.declared.Rect.{Rect}
use Rattle.emath.specs.declared.Vec2.{Vec2}
use Rattle.grid.specs.Memories.{heights}
use Rattle.grid.specs.Grids.{advanced, row_ended}
use Rattle.grid.specs.declared.GridLayout.{GridLayout}
use Rattle.grid.specs.declared.Memory.{Memory}
use Rattle.placer.specs.Operations.{checked_end_row}
use Rattle.placer.specs.declared.Placer.{Placer}
use Rattle.records.specs.declared.Step.{Step}
use Rattle.records.specs.declared.Step.TheVariants.{Widget, Space, RowHeight, MaxWidth, MaxHeight, MinWidth, MinHeight, RowEnd}
use Rattle.model.proofs.WholeSteps.Model as model
use Rattle.model.proofs.WholeSteps.Model.{lift}
use Rattle.model.proofs.WholeSteps.Heights.{Run, done, placed, ended}
use Rattle.model.proofs.WholeSteps.Settled.{cols_from}
use Rattle.model.proofs.AnyNumbers.Embedding.{Upto, upto-get_or}
use Rattle.model.proofs.InFloats.Ticks.{len}
use Rattle.sheet.specs.Pass.{stepped, run_from, cell_of, widget_step}
use Rattle.pass_laws.specs.WholeSheets.{WholeSteps}
use Rattle.sheet.specs.Ticks.{ticks}
use Rattle.sheet.proofs.Runs.{run-goes}
use Rattle.pass_laws.proofs.GridMoves.{GridCell, grid-cell, control-width, widget-is, row-ended, Other, left_alone}
use Rattle.pass_laws.proofs.GridTops.{OnSteps, control-on-steps, row-on-steps, other-on-steps}
use Rattle.pass_laws.proofs.ColumnRuns.{advanced-is, ended_is}
use Rattle.pass_laws.proofs.ColumnLaw.{not_negative_lem, edge-not-negative}
use Rattle.pass_laws.proofs.Listed.{Listed, noted-listed}
use Rattle.pass_laws.proofs.RowHeights.{row-remembered, noted-height}

-- ---- a sheet's controls and row ends, in whole steps
abbrev pub count : ℕ → Float → ℕ
count k x = nat_abs (ticks k x)

unfoldable pub model_steps : ℕ → List Step → List model.Step
model_steps k [] = []
model_steps k (Widget w h ∷ rest) = model.W (count k w) (count k h) ∷ model_steps k rest
model_steps k (RowEnd ∷ rest) = model.E ∷ model_steps k rest
model_steps k (Space a ∷ rest) = model_steps k rest
model_steps k (RowHeight h ∷ rest) = model_steps k rest
model_steps k (MaxWidth w ∷ rest) = model_steps k rest
model_steps k (MaxHeight h ∷ rest) = model_steps k rest
model_steps k (MinWidth w ∷ rest) = model_steps k rest
model_steps k (MinHeight h ∷ rest) = model_steps k rest

-- a whole length that is not negative is its count
pub counted : (k : ℕ) → k ≤ 6 → (x : Float) (e : Edge k x) → pos 0 ≤ᶻ e.steps → (x ≡ len k (count k x)) × (count k x ≤ most k)
counted k l x e h = go e.steps e.is e.few (edge-small k (omega arith) e) h
  where
    go : (z : ℤ) → x ≡ val k z → nat_abs z ≤ most k → Within 8388608 z → pos 0 ≤ᶻ z → (x ≡ len k (count k x)) × (count k x ≤ most k)
    go (pos n) is few small p =
        let c : count k x ≡ n = ap (λ (y : Float). count k y) is ∙ ap nat_abs (points-to-steps k (omega arith) (pos n) (omega (arith, small))).1 in
        (is ∙ ap (λ (m : ℕ). len k m) (sym c), omega (arith, few, c))
    go (negsuc n) is few small p = absurd (omega (arith, p))

advanced-keeps : (g : GridLayout) (c v : Rect) → ((advanced g c v).grid.row ≡ g.row) × ((advanced g c v).grid.prev_state ≡ g.prev_state)
unfolding advanced
advanced-keeps g c v = (refl, refl)

ended-keeps : (g : GridLayout) (c : Rect) → ((row_ended g c).grid.row ≡ g.row + 1) × ((row_ended g c).grid.prev_state ≡ g.prev_state)
unfolding row_ended
ended-keeps g c = (refl, refl)

module _ (k : ℕ) (l : k ≤ 6) (mw mh : ℕ) (mw_b : mw ≤ most k) (mh_b : mh ≤ most k) (given : List ℕ) (given_b : Upto (most k) given) where
  -- where a run is
  pub record At (row col : ℕ) (cs rs : List ℕ) (p : Placer) : Type 0 where
    pub steps : OnSteps k p
    pub row_is : p.grid.row ≡ row
    pub col-is : p.grid.col ≡ col
    pub least-width : p.grid.min_cell_size.x ≡ len k mw
    pub least-height : p.grid.min_cell_size.y ≡ len k mh
    pub listed : Listed k cs rs p.grid.curr_state
    pub given-are : heights p.grid.prev_state ≡ map (len k) given

  -- ---- a W
  module _ (sp : Vec2) (cs rs : List ℕ) (p : Placer) (i : At p.grid.row p.grid.col cs rs p) (w h : Float) (ew : Edge k w) (eh : Edge k h) where
    abbrev size : Vec2
    size = record { x = w; y = h }

    abbrev next : Placer
    next = (widget_step sp p size (cell_of k sp p size)).placer

    abbrev Controlled : Type 0
    Controlled = (v : ℕ) × (count k h ≤ v) × (v ≤ max (count k h) (get_or given p.grid.row mh))
        × At p.grid.row (p.grid.col + 1) (lift cs p.grid.col (max (count k w) mw)) (lift rs p.grid.row (max v mh)) next

    after : (a : GridCell k sp p size) (v : ℕ) → count k h ≤ v → v ≤ max (count k h) (get_or given p.grid.row mh) → v ≤ most k → w ≡ len k (count k w) → count k w ≤ most k
        → height (cell_of k sp p size).widget ≡ len k v → Controlled
    after a v low high few is w_b tall =
        let g = p.grid in
        let c = p.region.cursor in
        let m = (cell_of k sp p size).widget in
        let d = advanced-is g c m in
        let e = advanced-keeps g c m in (
          v,
          low,
          high,
          record {
            steps = control-on-steps k l sp p i.steps size a;
            row_is = ap (λ (x : GridLayout). x.row) a.grid ∙ e.0;
            col-is = ap (λ (x : GridLayout). x.col) a.grid ∙ d.1;
            least-width = ap (λ (x : GridLayout). x.min_cell_size.x) a.grid ∙ ap (λ (u : Vec2). u.x) d.2 ∙ i.least-width;
            least-height = ap (λ (x : GridLayout). x.min_cell_size.y) a.grid ∙ ap (λ (u : Vec2). u.y) d.2 ∙ i.least-height;
            listed = subst (Listed k _ _) (sym (ap (λ (x : GridLayout). x.curr_state) a.grid ∙ d.0))
                (noted-listed k l g m cs rs (count k w) v mw mh i.listed a.col a.row (control-width k (omega arith) sp p size i.steps.grid ew a ∙ is) tall i.least-width i.least-height w_b few mw_b mh_b);
            given-are = ap (λ (x : GridLayout). heights x.prev_state) a.grid ∙ ap (λ (x : Memory). heights x) e.1 ∙ i.given-are;
          },
        )

    control-here : (stepped k sp p (Widget w h)).number ≡ 0 → Controlled
    unfolding stepped
    control-here n =
        let a = grid-cell k sp p size i.steps.grid n in
        let u = not_negative_lem size a.placed.size in
        let cw = counted k l w ew (edge-not-negative k (omega arith) w ew u.0) in
        let ch = counted k l h eh (edge-not-negative k (omega arith) h eh u.1) in
        let t = i.steps.tops.top in
        let r_b = upto-get_or p.grid.row mh mh_b given_b in
        let v = noted-height k l p.grid p.region.cursor size t.steps t.few (count k h) (get_or given p.grid.row mh) ch.1 r_b t.is ch.0
        (row-remembered k p.grid given mh i.given-are i.least-height) in
        after a v.0 v.1 v.2 (omega (arith, v.2, ch.1, r_b)) cw.0 cw.1 (ap (λ (r : Rect). height r) (widget-is k sp p size i.steps.grid) ∙ v.3)

  -- ---- an E, and the others
  moved_at : (g : GridLayout) (row col row' col' : ℕ) (cs rs : List ℕ) (p q : Placer) → At row col cs rs p → OnSteps k q → q.grid ≡ g → g.row ≡ row' → g.col ≡ col'
      → g.min_cell_size ≡ p.grid.min_cell_size → g.curr_state ≡ p.grid.curr_state → g.prev_state ≡ p.grid.prev_state → At row' col' cs rs q
  moved_at g row col row' col' cs rs p q i o e er ec em es ep = record {
    steps = o;
    row_is = ap (λ (x : GridLayout). x.row) e ∙ er;
    col-is = ap (λ (x : GridLayout). x.col) e ∙ ec;
    least-width = ap (λ (x : GridLayout). x.min_cell_size.x) e ∙ ap (λ (u : Vec2). u.x) em ∙ i.least-width;
    least-height = ap (λ (x : GridLayout). x.min_cell_size.y) e ∙ ap (λ (u : Vec2). u.y) em ∙ i.least-height;
    listed = subst (Listed k cs rs) (sym (ap (λ (x : GridLayout). x.curr_state) e ∙ es)) i.listed;
    given-are = ap (λ (x : GridLayout). heights x.prev_state) e ∙ ap (λ (x : Memory). heights x) ep ∙ i.given-are;
  }

  counted-at : (r r' c c' d d' : ℕ) (cs rs : List ℕ) (x y : ℕ) (q : Placer) → r ≡ r' → c ≡ c' → d ≡ d' → At r d (lift cs c x) (lift rs r y) q → At r' d' (lift cs c' x) (lift rs r' y) q
  counted-at r r' c c' d d' cs rs x y q er ec ed a =
      subst (λ (n : ℕ). At n d' (lift cs c' x) (lift rs n y) q) er
      (subst (λ (n : ℕ). At r d' (lift cs n x) (lift rs r y) q) ec (subst (λ (n : ℕ). At r n (lift cs c x) (lift rs r y) q) ed a))

  module _ (sp : Vec2) (row col : ℕ) (cs rs : List ℕ) (p : Placer) (i : At row col cs rs p) where
    row_at : (stepped k sp p RowEnd).number ≡ 0 → At (suc row) 0 cs rs (stepped k sp p RowEnd).placer
    unfolding stepped
    row_at n =
        let a = row-ended sp p i.steps.grid n in
        let g = (row_ended p.grid p.region.cursor).grid in
        let d = ended_is p.grid p.region.cursor in
        let e = ended-keeps p.grid p.region.cursor in
        let r : g.row ≡ suc row = omega (arith, e.0, i.row_is) in
        moved_at g row col (suc row) 0 cs rs p (checked_end_row p sp).placer i (row-on-steps k l sp p i.steps n) a.grid r d.1 d.2 d.0 e.1

    other_at : {st : Step} → Other st → (stepped k sp p st).number ≡ 0 → At row col cs rs (stepped k sp p st).placer
    other_at {st} o n =
        let a = left_alone k sp p o n in
        moved_at p.grid row col row col cs rs p (stepped k sp p st).placer i (other-on-steps k l sp p i.steps o n) a.grid i.row_is i.col-is refl refl refl

    control-at : (w h : Float) → Edge k w → Edge k h → (stepped k sp p (Widget w h)).number ≡ 0
        → (v : ℕ) × (count k h ≤ v) × (v ≤ max (count k h) (get_or given row mh)) × At row (suc col) (lift cs col (max (count k w) mw)) (lift rs row (max v mh)) (stepped k sp p (Widget w h)).placer
    unfolding stepped
    control-at w h ew eh n =
        let j : At p.grid.row p.grid.col cs rs p = record { steps = i.steps; row_is = refl; col-is = refl; least-width = i.least-width; least-height = i.least-height; listed = i.listed; given-are = i.given-are } in
        let c = control-here sp cs rs p j w h ew eh n in
        (c.0, c.1, subst (λ (r : ℕ). c.0 ≤ max (count k h) (get_or given r mh)) i.row_is c.2, counted-at p.grid.row row p.grid.col col (p.grid.col + 1) (suc col) cs rs (max (count k w) mw) (max c.0 mh) _ i.row_is i.col-is (omega (arith, i.col-is)) c.3)

  -- ---- the run
  module _ (sp : Vec2) where
    pub record Settles (row col : ℕ) (cs rs : List ℕ) (steps : List Step) (q : Placer) : Type 0 where
      pub last_row : ℕ
      pub last-col : ℕ
      pub rows : List ℕ
      pub run : Run mh given row rs (model_steps k steps) rows
      pub at : At last_row last-col (cols_from mw col cs (model_steps k steps)) rows q

    abbrev Law : List Step → Type 0
    Law steps = (n row col : ℕ) (cs rs : List ℕ) (p : Placer) → At row col cs rs p → (run_from k sp n p steps).number ≡ 0 → Settles row col cs rs steps (run_from k sp n p steps).placer

    none-settles : Law []
    unfolding run_from model_steps cols_from
    none-settles n row col cs rs p i h = record { last_row = row; last-col = col; rows = rs; run = done; at = i }

    control-settles : (w h : Float) (rest : List Step) → Edge k w → Edge k h → Law rest → Law (Widget w h ∷ rest)
    unfolding model_steps cols_from
    control-settles w h rest ew eh ih n row col cs rs p i g =
        let r = run-goes k sp n p (Widget w h) rest g in
        let c = control-at sp row col cs rs p i w h ew eh r.this in
        let t = ih (n + 1) row (suc col) (lift cs col (max (count k w) mw)) (lift rs row (max c.0 mh)) (stepped k sp p (Widget w h)).placer c.3 r.rest in
        record { last_row = t.last_row; last-col = t.last-col; rows = t.rows; run = placed c.0 c.1 c.2 t.run; at = subst (At t.last_row t.last-col _ t.rows) (sym r.placer) t.at }

    row-settles : (rest : List Step) → Law rest → Law (RowEnd ∷ rest)
    unfolding model_steps cols_from
    row-settles rest ih n row col cs rs p i g =
        let r = run-goes k sp n p RowEnd rest g in
        let t = ih (n + 1) (suc row) 0 cs rs (stepped k sp p RowEnd).placer (row_at sp row col cs rs p i r.this) r.rest in
        record { last_row = t.last_row; last-col = t.last-col; rows = t.rows; run = ended t.run; at = subst (At t.last_row t.last-col _ t.rows) (sym r.placer) t.at }

    other-settles : {st : Step} (rest : List Step) → Other st → model_steps k (st ∷ rest) ≡ model_steps k rest → Law rest → Law (st ∷ rest)
    other-settles {st} rest o e ih n row col cs rs p i g =
        let r = run-goes k sp n p st rest g in
        let t = ih (n + 1) row col cs rs (stepped k sp p st).placer (other_at sp row col cs rs p i o r.this) r.rest in
        record {
          last_row = t.last_row;
          last-col = t.last-col;
          rows = t.rows;
          run = subst (λ (m : List model.Step). Run mh given row rs m t.rows) (sym e) t.run;
          at = subst (λ (m : List model.Step). At t.last_row t.last-col (cols_from mw col cs m) t.rows (run_from k sp n p (st ∷ rest)).placer) (sym e)
              (subst (At t.last_row t.last-col (cols_from mw col cs (model_steps k rest)) t.rows) (sym r.placer) t.at);
        }

    pub settles : {steps : List Step} → WholeSteps k steps → Law steps
    unfolding model_steps
    settles WholeSteps.none = none-settles
    settles (WholeSteps.control {w = w} {h = h} {rest = rest} ew eh t) = control-settles w h rest ew eh (settles t)
    settles (WholeSteps.row_end {rest = rest} t) = row-settles rest (settles t)
    settles (WholeSteps.space {rest = rest} e t) = other-settles rest Other.space refl (settles t)
    settles (WholeSteps.row_height {rest = rest} e t) = other-settles rest Other.row_height refl (settles t)
    settles (WholeSteps.max_width {rest = rest} e t) = other-settles rest Other.max_width refl (settles t)
    settles (WholeSteps.max_height {rest = rest} e t) = other-settles rest Other.max_height refl (settles t)
    settles (WholeSteps.min_width {rest = rest} e t) = other-settles rest Other.min_width refl (settles t)
    settles (WholeSteps.min_height {rest = rest} e t) = other-settles rest Other.min_height refl (settles t)
