-- What the engine records of a control in a frame of whole steps: exactly its width, and its rounded height, as lists of whole steps.
-- Assumes nothing.
use mathlib.Core.Path.{◌≡◌, ◌∙◌, ap}
use mathlib.Core.List.{List, map}
use Prim.Native.Nat.{ℕ, ◌+◌, ◌-◌, ◌*◌, ◌≤◌, max}
use native.Mathlib.Omega.{arith}
use Rattle.model.proofs.WholeSteps.Model.{lift}
use Rattle.model.proofs.WholeSteps.Halves.{rounded, centred, rounded-mono, rounded-le}
use Rattle.model.proofs.AnyNumbers.Engine.{Ops, Edges, raise, widget}
use Rattle.model.proofs.AnyNumbers.Exact.{Exact}
use Rattle.model.proofs.AnyNumbers.Embedding.{Upto}
use Rattle.model.proofs.AnyNumbers.GridSteps.{raise-is}

module _ {F : Type 0} {o : Ops F} {B : ℕ} {pt len : ℕ → F} (law : Exact o B pt len) (f : Edges F) (n : ℕ) where
  pub width_is : (w : ℕ) (h : F) → f.left ≡ pt n → n ≤ 2 * B → w ≤ B → o.sub (widget o f (len w) h).right (widget o f (len w) h).left ≡ len w
  unfolding widget
  width_is w h p n_b w_b =
      let e : n + w - n ≡ w = omega arith in
      rw (p, law.round-pt n (omega arith), law.add-pt n w (omega arith), law.round-pt (n + w) (omega arith)) (law.sub-pt (n + w) n (omega arith) (omega arith) ∙ ap len e)

  pub height-is : (w : F) (H h : ℕ) → f.top ≡ pt n → f.bottom ≡ pt (n + H) → h ≤ H → n + H ≤ 2 * B
      → o.sub (widget o f w (len h)).bottom (widget o f w (len h)).top ≡ len (centred B n H h)
  unfolding widget centred
  height-is w H h p q c i =
      let z = rounded B (2 * n + (H - h) + 2 * h) in
      let z_b : z ≤ 4 * B = omega (arith, rounded-le B (2 * n + (H - h) + 2 * h)) in
      rw (p, q, law.start_of n H h c i, law.end_of n H h c i) (law.sub-pt z (rounded B (2 * n + (H - h))) (rounded-mono B _ _ (omega arith)) z_b)

module _ {F : Type 0} {o : Ops F} {B : ℕ} {pt len : ℕ → F} (law : Exact o B pt len) where
  -- a length v and the minimum d, in the list c at the place i
  pub raised_is : (vs : List F) (c : List ℕ) (i : ℕ) (x m : F) (v d : ℕ) → vs ≡ map len c → x ≡ len v → m ≡ len d → v ≤ B → d ≤ B → Upto B c
      → raise o vs i (o.high x m) ≡ map len (lift c i (max v d))
  raised_is vs c i x m v d p e q v_b d_b u = rw (p, e, q, law.high-len v d (omega arith) (omega arith)) (raise-is law i {v = max v d} (omega arith) u)
