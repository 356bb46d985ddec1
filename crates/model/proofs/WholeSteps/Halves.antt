-- Rounding to whole steps with halves away from zero, of edges counted in half steps from 2 B half steps before zero: it keeps the order,
-- and a control centred in its frame comes out no lower than it is and no taller than the frame. Assumes nothing.
use mathlib.Core.Path.{◌≡◌, refl}
use mathlib.Core.Bool.{Bool, true, false, cond}
use Prim.Native.Nat.{ℕ, ◌+◌, ◌-◌, ◌*◌, ◌/◌, ◌≤◌, ◌<◌}
use native.Mathlib.Omega.{arith}
use lib.Dec.{leb, leb→le, nleb→lt}
use Rattle.model.proofs.WholeSteps.Model.{Rounding, InBounds}

-- half steps to whole steps, both counted from B whole steps before zero
unfoldable pub rounded : ℕ → ℕ → ℕ
rounded B n = cond (leb (2 * B) n) ((n + 1) / 2) (n / 2)

-- a control of height h centred in a frame of height H at y, and its edges rounded
unfoldable pub centred : ℕ → Rounding
centred B y H h = rounded B (2 * y + (H - h) + 2 * h) - rounded B (2 * y + (H - h))

pub data Halved (B n : ℕ) : Type 0 where
  below : n < 2 * B → rounded B n ≡ n / 2 → Halved B n
  above : 2 * B ≤ n → rounded B n ≡ (n + 1) / 2 → Halved B n

pub halved : (B n : ℕ) → Halved B n
unfolding rounded
halved B n = go (leb (2 * B) n) refl
  where
    go : (b : Bool) → leb (2 * B) n ≡ b → Halved B n
    go true e = above (leb→le (2 * B) n (rw e tt)) (rw e)
    go false e = below (nleb→lt (2 * B) n (rw e tt)) (rw e)

pub centred-in-bounds : (B : ℕ) → InBounds (centred B)
unfolding InBounds centred
centred-in-bounds B y H h le = go (halved B (2 * y + (H - h))) (halved B (2 * y + (H - h) + 2 * h))
  where
    go : Halved B (2 * y + (H - h)) → Halved B (2 * y + (H - h) + 2 * h) → (h ≤ centred B y H h) × (centred B y H h ≤ H)
    go (below p e) (below q f) = omega arith
    go (below p e) (above q f) = omega arith
    go (above p e) (below q f) = omega arith
    go (above p e) (above q f) = omega arith

-- halves upward would stay in bounds too: a control would keep its own height
pub upward-in-bounds : InBounds (λ y H h. (2 * y + (H - h) + 2 * h + 1) / 2 - (2 * y + (H - h) + 1) / 2)
unfolding InBounds
upward-in-bounds y H h le = (omega arith, omega arith)

pub rounded-mono : (B a b : ℕ) → a ≤ b → rounded B a ≤ rounded B b
rounded-mono B a b h = go (halved B a) (halved B b)
  where
    go : Halved B a → Halved B b → rounded B a ≤ rounded B b
    go (below p e) (below q f) = omega arith
    go (below p e) (above q f) = omega arith
    go (above p e) (below q f) = omega arith
    go (above p e) (above q f) = omega arith

pub rounded-le : (B n : ℕ) → rounded B n ≤ n
rounded-le B n = go (halved B n)
  where
    go : Halved B n → rounded B n ≤ n
    go (below p e) = omega arith
    go (above p e) = omega arith

-- a whole step stays
pub rounded-whole : (B n : ℕ) → rounded B (2 * n) ≡ n
rounded-whole B n = go (halved B (2 * n))
  where
    go : Halved B (2 * n) → rounded B (2 * n) ≡ n
    go (below p e) = omega arith
    go (above p e) = omega arith
