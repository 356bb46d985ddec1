-- A step of a grid's pass by the engine, from a state in whole steps: the model's cell, its rounded widget, and the model's next state.
-- Assumes nothing.
use mathlib.Core.Path.{◌≡◌, refl, ap}
use mathlib.Core.List.{List, [], ◌∷◌, map}
use mathlib.Core.Bool.{Bool, true, false, cond}
use Prim.Native.Nat.{ℕ, zero, suc, ◌+◌, ◌-◌, ◌*◌, ◌≤◌, max}
use native.Mathlib.Omega.{arith}
use native.Mathlib.Nat.{zero-max}
use lib.ListN.{get_or, get_or-map}
use Rattle.model.proofs.WholeSteps.Model.{Heading, Memory, State, lift, after_w, after_e}
use Rattle.model.proofs.WholeSteps.Halves.{rounded, centred, rounded-mono, rounded-le}
use Rattle.model.proofs.AnyNumbers.Engine.{Ops, raise, next_cell, widget, advance, end_row}
use Rattle.model.proofs.AnyNumbers.Exact.{Exact}
use Rattle.model.proofs.AnyNumbers.Embedding.{edges, engine_state, given_of, Upto, empty, upto, FineState}

module _ {F : Type 0} {o : Ops F} {B : ℕ} {pt len : ℕ → F} (law : Exact o B pt len) where
  pub raise-is : {l : List ℕ} (i : ℕ) {v : ℕ} → v ≤ B → Upto B l → raise o (map len l) i (len v) ≡ map len (lift l i v)
  unfolding raise lift
  raise-is zero {v} h empty = rw (law.none_is, law.high-len 0 v (omega arith) (omega arith), zero-max)
  raise-is (suc i) {v} h empty = rw law.none_is (ap (λ (z : List F). len 0 ∷ z) (raise-is {l = []} i h empty))
  raise-is zero {v} h (upto {x = x} p t) = rw (law.high-len x v (omega arith) (omega arith))
  raise-is (suc i) {v} h (upto {x = x} p t) = ap (λ (z : List F). len x ∷ z) (raise-is i h t)

  sized : (b : Bool) (n : ℕ) → cond b 0 n ≡ n → cond b (len 0) (len n) ≡ len n
  sized true n e = ap len e
  sized false n e = refl

  module _ (b : Bool) (g : Heading) (m : Memory) (s : State) where
    pub end_is : s.y + g.gap_y + get_or s.rows s.row g.min_h ≤ 4 * B → end_row o (given_of pt len b g m) (engine_state pt len s) ≡ engine_state pt len (after_e (centred B) g m s)
    unfolding end_row after_e
    end_is h = rw (get_or-map len s.rows s.row g.min_h, law.add-pt s.y g.gap_y (omega arith), law.add-pt (s.y + g.gap_y) (get_or s.rows s.row g.min_h) (omega arith))

    module _ (w h : ℕ) where
      -- the cell's width and height
      abbrev fw : ℕ
      fw = max w (get_or m.cols s.col 0)

      abbrev fh : ℕ
      fh = max h (get_or m.rows s.row g.min_h)

      pub cell-is : cond b 0 (get_or m.cols s.col 0) ≡ get_or m.cols s.col 0 → s.x + fw ≤ 4 * B → s.y + fh ≤ 4 * B
          → next_cell o (given_of pt len b g m) (engine_state pt len s) (len w) (len h) ≡ edges pt s.x s.y (s.x + fw) (s.y + fh)
      unfolding next_cell
      cell-is q in_x in_y = rw (
        law.none_is,
        get_or-map len m.cols s.col 0,
        sized b (get_or m.cols s.col 0) q,
        get_or-map len m.rows s.row g.min_h,
        law.high-len w (get_or m.cols s.col 0) (omega arith) (omega arith),
        law.high-len h (get_or m.rows s.row g.min_h) (omega arith) (omega arith),
        law.add-pt s.x fw (omega arith),
        law.add-pt s.y fh (omega arith),
        law.round-pt s.x (omega arith),
        law.round-pt s.y (omega arith),
        law.round-pt (s.x + fw) (omega arith),
        law.round-pt (s.y + fh) (omega arith),
      )

      module _ (in_x : s.x + fw ≤ 2 * B) (in_y : s.y + fh ≤ 2 * B) where
        pub widget-is : widget o (edges pt s.x s.y (s.x + fw) (s.y + fh)) (len w) (len h)
            ≡ edges pt s.x (rounded B (2 * s.y + (fh - h))) (s.x + w) (rounded B (2 * s.y + (fh - h) + 2 * h))
        unfolding widget
        widget-is = rw (
          law.start_of s.y fh h (omega arith) in_y,
          law.end_of s.y fh h (omega arith) in_y,
          law.add-pt s.x w (omega arith),
          law.round-pt s.x (omega arith),
          law.round-pt (s.x + w) (omega arith),
        )

        pub control-is : s.x + get_or m.cols s.col g.min_w + g.gap_x ≤ 4 * B → FineState B s → w ≤ B → g.min_w ≤ B → g.min_h ≤ B → centred B s.y fh h ≤ B
            → advance o (given_of pt len b g m) (engine_state pt len s)
            (edges pt s.x (rounded B (2 * s.y + (fh - h))) (s.x + w) (rounded B (2 * s.y + (fh - h) + 2 * h)))
            ≡ engine_state pt len (after_w (centred B) g m s w h)
        unfolding advance after_w centred
        control-is in_c fs w_b mw mh tall =
            let c = get_or m.cols s.col g.min_w in
            let a = rounded B (2 * s.y + (fh - h)) in
            let z = rounded B (2 * s.y + (fh - h) + 2 * h) in
            let n : z ≤ 4 * B = omega (arith, rounded-le B (2 * s.y + (fh - h) + 2 * h)) in
            let e : s.x + (c + g.gap_x) ≡ s.x + c + g.gap_x = omega arith in
            let f : s.x + w - s.x ≡ w = omega arith in
            rw (
              get_or-map len m.cols s.col g.min_w,
              law.add-len c g.gap_x (omega arith),
              law.add-pt s.x (c + g.gap_x) (omega arith),
              e,
              law.sub-pt (s.x + w) s.x (omega arith) (omega arith),
              f,
              law.high-len w g.min_w (omega arith) (omega arith),
              raise-is s.col {v = max w g.min_w} (omega arith) fs.cols,
              law.sub-pt z a (rounded-mono B _ _ (omega arith)) n,
              law.high-len (z - a) g.min_h (omega arith) (omega arith),
              raise-is s.row {v = max (z - a) g.min_h} (omega arith) fs.rows,
            )
