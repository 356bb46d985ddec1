-- Two lists of frames that open at one corner: the first frames stand there, and no later one starts further left or higher.
-- Assumes nothing.
use mathlib.Core.Path.{◌≡◌}
use mathlib.Core.List.{List, [], ◌∷◌}
use Prim.Native.Nat.{ℕ, ◌≤◌}
use Rattle.model.proofs.WholeSteps.Model.{Box}

-- no frame starts further left than a or higher than b
pub data From (a b : ℕ) : List Box → Type 0 where
  none : From a b []
  more : (f : Box) {l : List Box} → a ≤ f.left → b ≤ f.top → From a b l → From a b (f ∷ l)

pub data Opening : List Box → List Box → Type 0 where
  none : Opening [] []
  one : {f g : Box} {k l : List Box} → f.left ≡ g.left → f.top ≡ g.top → From f.left f.top k → From g.left g.top l
      → Opening (f ∷ k) (g ∷ l)
