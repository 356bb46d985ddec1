-- An accepted run of the engine over a grid's records, from a state in whole steps, is the model's: the same frames and the same last state.
-- Assumes nothing.
use mathlib.Core.Path.{◌≡◌, sym, ◌∙◌, ap}
use mathlib.Core.Bool.{Bool, cond}
use mathlib.Core.List.{List, [], ◌∷◌, map}
use Prim.Native.Nat.{ℕ, suc, ◌+◌, ◌*◌, ◌≤◌, max}
use native.Mathlib.Omega.{arith}
use lib.ListN.{get_or}
use Rattle.model.proofs.WholeSteps.Model.{Step, W, E, Heading, Memory, State, cell, after_w, after_e, frames, final, InBounds}
use Rattle.model.proofs.WholeSteps.Halves.{centred, centred-in-bounds}
use Rattle.model.proofs.AnyNumbers.EngineAnswers.{accepted}
use Rattle.model.proofs.AnyNumbers.Engine.{Ops, Edges, EngineState, Given, Move, Out, more, next_cell, widget, advance, run_f}
use Rattle.model.proofs.AnyNumbers.Exact.{Exact}
use Rattle.model.proofs.AnyNumbers.Embedding.{edges, box_edges, engine_state, given_of, moves, Upto, upto-get_or, upto-lift, Fits, control, end, FineHeading, Boxes, FineState}
use Rattle.model.proofs.AnyNumbers.GridSteps.{cell-is, widget-is, control-is, end_is}
use Rattle.model.proofs.AnyNumbers.AcceptedSteps.{Placed, placed-yes, ended-yes, done-yes}

-- what the model gives from the state s on, in the engine's numbers, all of the domain
pub record Same {F : Type 0} (B : ℕ) (pt len : ℕ → F) (g : Heading) (m : Memory) (s : State) (l : List Step) (r : Out F (EngineState F)) : Type 0 where
  pub frames-are : r.frames ≡ map (box_edges pt) (frames (centred B) g m s l)
  pub last-is : r.last ≡ engine_state pt len (final (centred B) g m s l)
  pub boxes : Boxes B (frames (centred B) g m s l)
  pub state-fine : FineState B (final (centred B) g m s l)

module _ {F : Type 0} (B : ℕ) (pt len : ℕ → F) (g : Heading) (m : Memory) (s : State) (l : List Step) (r : Out F (EngineState F)) where
  same_none : FineState B s → record { frames = []; widgets = []; last = engine_state pt len s } ≡ r → Same B pt len g m s [] r
  unfolding frames final
  same_none fs e = record { frames-are = ap (λ (x : Out F (EngineState F)). x.frames) (sym e); last-is = ap (λ (x : Out F (EngineState F)). x.last) (sym e); boxes = Boxes.none; state-fine = fs }

  same-control : (w h : ℕ) (f v : Edges F) (x : Out F (EngineState F)) → (cell (centred B) g m s w h).left + (cell (centred B) g m s w h).width ≤ 2 * B
      → (cell (centred B) g m s w h).top + (cell (centred B) g m s w h).height ≤ 2 * B → f ≡ box_edges pt (cell (centred B) g m s w h) → r ≡ more f v x
      → Same B pt len g m (after_w (centred B) g m s w h) l x → Same B pt len g m s (W w h ∷ l) r
  unfolding frames final
  same-control w h f v x in_x in_y e q t = record {
    frames-are = ap (λ (x : Out F (EngineState F)). x.frames) q ∙ ap (λ (a : Edges F). a ∷ x.frames) e ∙ ap (λ (a : List (Edges F)). box_edges pt (cell (centred B) g m s w h) ∷ a) t.frames-are;
    last-is = ap (λ (x : Out F (EngineState F)). x.last) q ∙ t.last-is;
    boxes = Boxes.more in_x in_y t.boxes;
    state-fine = t.state-fine;
  }

  same_end : Same B pt len g m (after_e (centred B) g m s) l r → Same B pt len g m s (E ∷ l) r
  unfolding frames final
  same_end t = record { frames-are = t.frames-are; last-is = t.last-is; boxes = t.boxes; state-fine = t.state-fine }

-- A pass that is sizing has no widths to remember.
module _ {F : Type 0} {o : Ops F} {B : ℕ} {pt len : ℕ → F} (law : Exact o B pt len) (b : Bool) (g : Heading) (m : Memory) (also : EngineState F → Move F → Bool)
    (fg : FineHeading B g) (mc : Upto B m.cols) (mr : Upto B m.rows) (unsized : (c : ℕ) → cond b 0 (get_or m.cols c 0) ≡ get_or m.cols c 0) where
  abbrev given : Given F
  given = given_of pt len b g m

  -- a control
  module _ (s : State) (fs : FineState B s) (w h : ℕ) (w_b : w ≤ B) (h_b : h ≤ B) where
    abbrev right : ℕ
    right = s.x + max w (get_or m.cols s.col 0)

    abbrev tall : ℕ
    tall = max h (get_or m.rows s.row g.min_h)

    abbrev frame : Edges F
    frame = next_cell o given (engine_state pt len s) (len w) (len h)

    abbrev next_state : State
    next_state = after_w (centred B) g m s w h

    width-in : get_or m.cols s.col 0 ≤ B
    width-in = upto-get_or s.col 0 (omega arith) mc

    height-in : get_or m.rows s.row g.min_h ≤ B
    height-in = upto-get_or s.row g.min_h fg.min_h mr

    frame_is : frame ≡ edges pt s.x s.y right (s.y + tall)
    frame_is = let i = width-in in let j = height-in in cell-is law b g m s w h (unsized s.col) (omega arith) (omega arith)

    tall-in : centred B s.y tall h ≤ B
    unfolding InBounds
    tall-in = omega (arith, centred-in-bounds B s.y tall h (omega arith), height-in)

    module _ (in_x : right ≤ 2 * B) (in_y : s.y + tall ≤ 2 * B) where
      next-in : s.x + get_or m.cols s.col g.min_w + g.gap_x ≤ 4 * B
      next-in = omega (arith, upto-get_or s.col g.min_w fg.min_w mc)

      after_is : advance o given (engine_state pt len s) (widget o frame (len w) (len h)) ≡ engine_state pt len next_state
      after_is = rw (frame_is, widget-is law b g m s w h in_x in_y) (control-is law b g m s w h in_x in_y next-in fs w_b fg.min_w fg.min_h tall-in)

      state-next : next_state.x ≤ 2 * B → FineState B next_state
      unfolding after_w
      state-next in_c = let v = tall-in in record { x = in_c; y = fs.y; cols = upto-lift s.col (omega arith) fs.cols; rows = upto-lift s.row (omega arith) fs.rows }

      x-next : next_state.x ≤ 4 * B
      unfolding after_w
      x-next = next-in

    record Taken (n : ℕ) (l : List Step) (r : Out F (EngineState F)) : Type 0 where
      pub in_x : right ≤ 2 * B
      pub in_y : s.y + tall ≤ 2 * B
      pub state-fine : FineState B next_state
      pub rest : Out F (EngineState F)
      pub then : run_f o given also (engine_state pt len next_state) (suc n) (moves len l) ≡ accepted rest
      pub is : r ≡ more frame (widget o frame (len w) (len h)) rest

    take : (n : ℕ) (l : List Step) (r : Out F (EngineState F)) → Placed o given also (engine_state pt len s) n (moves len l) r (len w) (len h) → Taken n l r
    take n l r q =
        let i = width-in in
        let j = height-in in
        let in_x : right ≤ 2 * B = law.inside-pt right (omega arith) (rw frame_is at q.right) in
        let in_y : s.y + tall ≤ 2 * B = law.inside-pt (s.y + tall) (omega arith) (rw frame_is at q.bottom) in
        let e = after_is in_x in_y in
        record {
          in_x = in_x;
          in_y = in_y;
          state-fine = state-next in_x in_y (law.inside-pt next_state.x (x-next in_x in_y) (rw e at q.next));
          rest = q.rest;
          then = rw e at q.then;
          is = q.is;
        }

    taken : (n : ℕ) (l : List Step) (r : Out F (EngineState F)) (t : Taken n l r) → Same B pt len g m next_state l t.rest → Same B pt len g m s (W w h ∷ l) r
    unfolding cell
    taken n l r t q = same-control B pt len g m s l r w h frame (widget o frame (len w) (len h)) t.rest t.in_x t.in_y frame_is t.is q

  -- a row's end
  end-fine : (s : State) → FineState B s → (after_e (centred B) g m s).y ≤ 2 * B → FineState B (after_e (centred B) g m s)
  unfolding after_e
  end-fine s fs y = record { x = fg.left; y = y; cols = fs.cols; rows = fs.rows }

  end-taken : (s : State) (n : ℕ) (l : List Step) (r : Out F (EngineState F)) → FineState B s → run_f o given also (engine_state pt len s) n (moves len (E ∷ l)) ≡ accepted r
      → FineState B (after_e (centred B) g m s) × (run_f o given also (engine_state pt len (after_e (centred B) g m s)) (suc n) (moves len l) ≡ accepted r)
  unfolding moves after_e
  end-taken s n l r fs e =
      let j : get_or s.rows s.row g.min_h ≤ B = upto-get_or s.row g.min_h fg.min_h fs.rows in
      let q = rw (end_is law b g m s (omega arith)) at (ended-yes o given also (engine_state pt len s) n (moves len l) r e) in
      (end-fine s fs (law.inside-pt (s.y + g.gap_y + get_or s.rows s.row g.min_h) (omega arith) q.0), q.1)

  pub run_is : (s : State) (n : ℕ) (l : List Step) (r : Out F (EngineState F)) → FineState B s → Fits B l
      → run_f o given also (engine_state pt len s) n (moves len l) ≡ accepted r → Same B pt len g m s l r
  run_is s n [] r fs f e = same_none B pt len g m s [] r fs (done-yes o given also (engine_state pt len s) n [] r (unfold moves in e))
  run_is s n (W w h ∷ l) r fs (control u v f) e =
      let t = take s fs w h u v n l r (placed-yes o given also (engine_state pt len s) n (moves len l) r (len w) (len h) (unfold moves in e)) in
      taken s fs w h u v n l r t (run_is _ (suc n) l t.rest t.state-fine f t.then)
  run_is s n (E ∷ l) r fs (end f) e =
      let q = end-taken s n l r fs e in
      same_end B pt len g m s l r (run_is (after_e (centred B) g m s) (suc n) l r q.0 f q.1)
