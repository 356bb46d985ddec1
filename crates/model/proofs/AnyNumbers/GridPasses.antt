-- Accepted passes of a grid by the engine are the model's: a first one, and one that is given the first's memory. Assumes nothing.
use mathlib.Core.Path.{◌≡◌, refl, ◌∙◌, ap}
use mathlib.Core.Bool.{Bool, true, false, cond}
use mathlib.Core.List.{List, map}
use Prim.Native.Nat.{ℕ}
use lib.ListN.{get_or}
use Rattle.model.proofs.WholeSteps.Model.{Step, Heading, Memory, nothing, begin, grid_pass}
use Rattle.model.proofs.WholeSteps.Halves.{centred, centred-in-bounds}
use Rattle.model.proofs.WholeSteps.Settled.{settled, memory-first}
use Rattle.model.proofs.AnyNumbers.EngineAnswers.{accepted}
use Rattle.model.proofs.AnyNumbers.Engine.{Ops, EngineState, Given, Move, Out, memory_f, given_f, pass_f, first_f, later_f}
use Rattle.model.proofs.AnyNumbers.Exact.{Exact}
use Rattle.model.proofs.AnyNumbers.Embedding.{box_edges, head_of, mem_of, moves, Upto, empty, Fits, FineHeading, Boxes, begin-fine}
use Rattle.model.proofs.AnyNumbers.GridRuns.{Same, run_is}

-- the model's pass with the memory m, in the engine's numbers, all of the domain
pub record PassIs {F : Type 0} (B : ℕ) (pt len : ℕ → F) (g : Heading) (l : List Step) (m : Memory) (r : Out F (EngineState F)) : Type 0 where
  pub frames-are : r.frames ≡ map (box_edges pt) (grid_pass (centred B) g l m).frames
  pub memory-is : memory_f r ≡ mem_of len (grid_pass (centred B) g l m).memory
  pub boxes : Boxes B (grid_pass (centred B) g l m).frames
  pub cols : Upto B (grid_pass (centred B) g l m).memory.cols
  pub rows : Upto B (grid_pass (centred B) g l m).memory.rows

module _ {F : Type 0} {o : Ops F} {B : ℕ} {pt len : ℕ → F} (law : Exact o B pt len) (also : Given F → EngineState F → Move F → Bool) (g : Heading) (fg : FineHeading B g) where
  module _ (l : List Step) (f : Fits B l) where
    from-same : (m : Memory) (r : Out F (EngineState F)) → Same B pt len g m (begin g) l r → PassIs B pt len g l m r
    unfolding grid_pass
    from-same m r q = record {
      frames-are = q.frames-are;
      memory-is = ap (λ (s : EngineState F). record { cols = s.cols; rows = s.rows }) q.last-is;
      boxes = q.boxes;
      cols = q.state-fine.cols;
      rows = q.state-fine.rows;
    }

    -- a pass with a memory in whole steps; if it is sizing, the memory has no widths
    pub pass-is : (b : Bool) (m : Memory) (r : Out F (EngineState F)) → Upto B m.cols → Upto B m.rows → ((c : ℕ) → cond b 0 (get_or m.cols c 0) ≡ get_or m.cols c 0)
        → pass_f o also (head_of pt len g) (moves len l) b (mem_of len m) ≡ accepted r → PassIs B pt len g l m r
    unfolding pass_f begin
    pass-is b m r mc mr unsized e =
        from-same m r (run_is law b g m (also (given_f (head_of pt len g) b (mem_of len m))) fg mc mr unsized (begin g) 3 l r (begin-fine B g fg) f e)

    first-is : (a : Out F (EngineState F)) → first_f o also (head_of pt len g) (moves len l) ≡ accepted a → PassIs B pt len g l nothing a
    unfolding nothing
    first-is a e = pass-is true nothing a empty empty (λ c. refl) e

    -- the second pass
    module _ (a b : Out F (EngineState F)) (one : first_f o also (head_of pt len g) (moves len l) ≡ accepted a) (two : later_f o also (head_of pt len g) (moves len l) (memory_f a) ≡ accepted b) where
      memory-one : memory_f a ≡ mem_of len (settled g l)
      memory-one = (first-is a one).memory-is ∙ ap (mem_of len) (memory-first (centred B) (centred-in-bounds B) g l)

      -- it is the model's second
      pub second_is : PassIs B pt len g l (settled g l) b
      second_is =
          let p = first-is a one in
          let e = memory-first (centred B) (centred-in-bounds B) g l in
          pass-is false (settled g l) b (rw e at p.cols) (rw e at p.rows) (λ c. refl) (rw memory-one at two)
