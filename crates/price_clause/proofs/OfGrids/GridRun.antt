-- An accepted run of controls and row ends in a grid is the engine's accepted run: the same frames, the same widgets, and the last placer's
-- state. Assumes nothing.
use Prim.Native.Nat.{ℕ, suc, ◌+◌, ◌≤◌}
use mathlib.Core.Path.{◌≡◌, refl, ap, sym, ◌∙◌}
use mathlib.Core.Bool.{Bool, true, false}
use mathlib.Core.List.{List, [], ◌∷◌, map}
use native.Mathlib.Omega.{arith}
use lib.Dec.{T}
use lib.IntN.{pos}
use lib.Ieee.{Float}
use Rattle.emath.specs.Rectangles.{is_infinite}
use Rattle.emath.specs.Steps.{most}
use Rattle.emath.proofs.Tests.{T_true}
use Rattle.emath.proofs.Values.{eq-inf}
use Rattle.emath.specs.declared.Vec2.{Vec2}
use Rattle.placer.specs.declared.Placer.{Placer}
use Rattle.records.specs.declared.Step.{Step}
use Rattle.records.specs.declared.Step.TheVariants.{Widget, RowEnd}
use Rattle.model.proofs.WholeSteps.Model as model
use Rattle.model.proofs.AnyNumbers.EngineAnswers.{Answer, accepted, guard, on}
use Rattle.model.proofs.AnyNumbers.Engine as engine
use Rattle.model.proofs.AnyNumbers.Engine.{Ops, Edges, EngineState, Given, Move, place, finish, Out, more, run_f}
use Rattle.model.proofs.AnyNumbers.Embedding.{moves}
use Rattle.model.proofs.InFloats.Ticks.{len, cap}
use Rattle.model.proofs.InFloats.Floats.{ops}
use Rattle.sheet.specs.Pass.{Cell, Ran, stepped, run_from, cell_of, widget_step}
use Rattle.sheet.proofs.Runs.{run-goes}
use Rattle.price_clause.proofs.OfGrids.GridStates.{edges_of, engine_state_of, given_of}
use Rattle.price_clause.proofs.OfGrids.GridSteps.{InGrid, cell-move, row_move}

-- ---- the engine accepts what passes its tests; nothing else turns it back
abbrev pub always : {F : Type 0} → EngineState F → Move F → Bool
always s m = true

module _ {F : Type 0} (o : Ops F) (g : Given F) (s : EngineState F) (n : ℕ) (l : List (Move F)) (r : Out F (EngineState F)) where
  placed : (w h : F) (f v : Edges F) (t : EngineState F) → f ≡ engine.next_cell o g s w h → v ≡ engine.widget o f w h → t ≡ engine.advance o g s v
      → T (o.inside f.right) → T (o.inside f.bottom) → T (o.inside t.x) → run_f o g always t (suc n) l ≡ accepted r
      → run_f o g always s n (place w h ∷ l) ≡ accepted (more f v r)
  unfolding run_f guard on
  placed w h f v t ef ev et i j x e = rw (← ef, ← ev, ← et, T_true (o.inside f.right) i, T_true (o.inside f.bottom) j, T_true (o.inside t.x) x, e)

  ended : (t : EngineState F) → t ≡ engine.end_row o g s → T (o.inside t.y) → run_f o g always t (suc n) l ≡ accepted r → run_f o g always s n (finish ∷ l) ≡ accepted r
  unfolding run_f guard
  ended t et y e = rw (← et, T_true (o.inside t.y) y) e

  nothing_left : run_f o g always s n [] ≡ accepted (record { frames = []; widgets = []; last = s })
  unfolding run_f
  nothing_left = refl

-- ---- the records as the model has them: each length a count of steps
pub data Counts (k B : ℕ) : List Step → List model.Step → Type 0 where
  none : Counts k B [] []
  control : {w h : Float} {m n : ℕ} {rest : List Step} {l : List model.Step} → w ≡ len k m → h ≡ len k n → m ≤ B → n ≤ B → Counts k B rest l → Counts k B (Widget w h ∷ rest) (model.W m n ∷ l)
  row_end : {rest : List Step} {l : List model.Step} → Counts k B rest l → Counts k B (RowEnd ∷ rest) (model.E ∷ l)

-- ---- the run
abbrev pub out_of : Ran → Out Float (EngineState Float)
out_of r = record { frames = map (λ (c : Cell). edges_of c.frame) r.cells; widgets = map (λ (c : Cell). edges_of c.widget) r.cells; last = engine_state_of r.placer }

out-more : (later whole : Ran) (c : Cell) → whole.cells ≡ c ∷ later.cells → whole.placer ≡ later.placer → out_of whole ≡ more (edges_of c.frame) (edges_of c.widget) (out_of later)
out-more later whole c e f = rw (e, f)

out-same : (later whole : Ran) → whole.cells ≡ later.cells → whole.placer ≡ later.placer → out_of whole ≡ out_of later
out-same later whole e f = rw (e, f)

module _ (k B : ℕ) (l : k ≤ 6) (b : B ≡ most k) (sp : Vec2) where
  length-finite : (x : Float) (n : ℕ) → x ≡ len k n → n ≤ B → is_infinite x ≡ false
  length-finite x n e h = rw e (eq-inf k (omega arith) (pos n) (omega (arith, cap k B l b)) false)

  pub record Follows (n e : ℕ) (p : Placer) (steps : List Step) (m : List model.Step) : Type 0 where
    pub accepts : run_f (ops k) (given_of p.grid) always (engine_state_of p) e (moves (len k) m) ≡ accepted (out_of (run_from k sp n p steps))
    pub still : (run_from k sp n p steps).placer.has_grid ≡ true

  abbrev Law : ℕ → Placer → List Step → List model.Step → Type 0
  Law n p steps m = InGrid p → (run_from k sp n p steps).number ≡ 0 → (e : ℕ) → Follows n e p steps m

  none-law : (n : ℕ) (p : Placer) → Law n p [] []
  unfolding run_from moves
  none-law n p i g e = record { accepts = nothing_left (ops k) (given_of p.grid) (engine_state_of p) e [] (out_of (record { number = 0; at = 0; cells = []; placer = p })); still = i.grid }

  abbrev engine_run : Placer → ℕ → List (Move Float) → Answer (Out Float (EngineState Float))
  engine_run p e ms = run_f (ops k) (given_of p.grid) always (engine_state_of p) e ms

  -- the engine's run of the rest, given what the grid is given now
  given-same : (p q : Placer) (e : ℕ) (ms : List (Move Float)) (o : Out Float (EngineState Float)) → given_of q.grid ≡ given_of p.grid → engine_run q e ms ≡ accepted o
      → run_f (ops k) (given_of p.grid) always (engine_state_of q) e ms ≡ accepted o
  given-same p q e ms o f h = ap (λ (x : Given Float). run_f (ops k) x always (engine_state_of q) e ms) (sym f) ∙ h

  control-law : (n : ℕ) (p : Placer) (w h : Float) (u v : ℕ) (rest : List Step) (m : List model.Step) → w ≡ len k u → h ≡ len k v → u ≤ B → v ≤ B → ((q : Placer) → Law (n + 1) q rest m)
      → Law n p (Widget w h ∷ rest) (model.W u v ∷ m)
  unfolding moves stepped widget_step
  control-law n p w h u v rest m ew eh u_b v_b ih i g e =
      let s : Vec2 = record { x = w; y = h } in
      let r = run-goes k sp n p (Widget w h) rest g in
      let c = cell_of k sp p s in
      let q = (stepped k sp p (Widget w h)).placer in
      let later = run_from k sp (n + 1) q rest in
      let a = cell-move k sp p i s (length-finite w u ew u_b) (length-finite h v eh v_b) r.this in
      let t = ih q a.inside r.rest (suc e) in
      let d : engine_run p e (place w h ∷ moves (len k) m) ≡ accepted (more (edges_of c.frame) (edges_of c.widget) (out_of later))
      = placed (ops k) (given_of p.grid) (engine_state_of p) e (moves (len k) m) (out_of later) w h (edges_of c.frame) (edges_of c.widget) (engine_state_of q) a.frame a.widget a.after a.right a.bottom a.left
      (given-same p q (suc e) (moves (len k) m) (out_of later) a.given t.accepts) in
      record {
        accepts = ap (λ (x : Float). engine_run p e (place x (len k v) ∷ moves (len k) m)) (sym ew) ∙ ap (λ (x : Float). engine_run p e (place w x ∷ moves (len k) m)) (sym eh) ∙ d
            ∙ ap accepted (sym (out-more later (run_from k sp n p (Widget w h ∷ rest)) c r.cells r.placer));
        still = ap (λ (x : Placer). x.has_grid) r.placer ∙ t.still;
      }

  row-law : (n : ℕ) (p : Placer) (rest : List Step) (m : List model.Step) → ((q : Placer) → Law (n + 1) q rest m) → Law n p (RowEnd ∷ rest) (model.E ∷ m)
  unfolding moves stepped
  row-law n p rest m ih i g e =
      let r = run-goes k sp n p RowEnd rest g in
      let q = (stepped k sp p RowEnd).placer in
      let later = run_from k sp (n + 1) q rest in
      let a = row_move k sp p i r.this in
      let t = ih q a.inside r.rest (suc e) in
      record {
        accepts = ended (ops k) (given_of p.grid) (engine_state_of p) e (moves (len k) m) (out_of later) (engine_state_of q) a.after a.top (given-same p q (suc e) (moves (len k) m) (out_of later) a.given t.accepts)
            ∙ ap accepted (sym (out-same later (run_from k sp n p (RowEnd ∷ rest)) r.cells r.placer));
        still = ap (λ (x : Placer). x.has_grid) r.placer ∙ t.still;
      }

  pub run-follows : {steps : List Step} {m : List model.Step} → Counts k B steps m → (n : ℕ) (p : Placer) → Law n p steps m
  run-follows none n p = none-law n p
  run-follows (control {w = w} {h = h} {m = u} {n = v} {rest = rest} {l = m} ew eh u_b v_b t) n p = control-law n p w h u v rest m ew eh u_b v_b (λ q. run-follows t (n + 1) q)
  run-follows (row_end {rest = rest} {l = m} t) n p = row-law n p rest m (λ q. run-follows t (n + 1) q)
