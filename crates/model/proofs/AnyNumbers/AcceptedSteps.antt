-- What the engine's acceptance of a grid's records says of the first of them. Assumes nothing.
use mathlib.Core.Path.{◌≡◌, sym}
use mathlib.Core.List.{List, [], ◌∷◌}
use mathlib.Core.Bool.{Bool}
use Prim.Native.Nat.{ℕ, suc}
use lib.Dec.{T}
use Rattle.model.proofs.AnyNumbers.EngineAnswers.{accepted, guard-yes, on-yes, accepted-same}
use Rattle.model.proofs.AnyNumbers.Engine.{Ops, Edges, EngineState, Given, Move, place, finish, Out, more, next_cell, widget, advance, end_row, run_f}

module _ {F : Type 0} (o : Ops F) (g : Given F) (also : EngineState F → Move F → Bool) (s : EngineState F) (n : ℕ) (l : List (Move F)) (r : Out F (EngineState F)) where
  module _ (w h : F) where
    abbrev frame_at : Edges F
    frame_at = next_cell o g s w h

    abbrev widget_at : Edges F
    widget_at = widget o frame_at w h

    abbrev after_at : EngineState F
    after_at = advance o g s widget_at

    pub record Placed : Type 0 where
      pub right : T (o.inside frame_at.right)
      pub bottom : T (o.inside frame_at.bottom)
      pub next : T (o.inside after_at.x)
      pub rest : Out F (EngineState F)
      pub then : run_f o g also after_at (suc n) l ≡ accepted rest
      pub is : r ≡ more frame_at widget_at rest

    pub placed-yes : run_f o g also s n (place w h ∷ l) ≡ accepted r → Placed
    unfolding run_f
    placed-yes e =
        let a = guard-yes 9 n _ _ (guard-yes 8 n _ _ e).1 in
        let b = guard-yes 9 n _ _ a.1 in
        let c = guard-yes 9 n _ _ b.1 in
        let x = on-yes _ _ c.1 in
        record { right = a.0; bottom = b.0; next = c.0; rest = x.0; then = x.1; is = sym (accepted-same x.2) }

  pub ended-yes : run_f o g also s n (finish ∷ l) ≡ accepted r → T (o.inside (end_row o g s).y) × (run_f o g also (end_row o g s) (suc n) l ≡ accepted r)
  unfolding run_f
  ended-yes e = guard-yes 9 n _ _ (guard-yes 8 n _ _ e).1

  pub done-yes : run_f o g also s n [] ≡ accepted r → record { frames = []; widgets = []; last = s } ≡ r
  unfolding run_f
  done-yes e = accepted-same e
