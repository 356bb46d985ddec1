-- What numbers must satisfy for the engine to follow the model: `pt n` is the edge n steps from B steps before zero, `len n` the length of
-- n steps, and sums, order and rounding of those with n at most 4 B are the whole numbers'. Nothing is said of larger ones. Assumes nothing.
use mathlib.Core.Path.{◌≡◌}
use Prim.Native.Nat.{ℕ, ◌+◌, ◌-◌, ◌*◌, ◌≤◌, max}
use lib.Dec.{T}
use Rattle.model.proofs.WholeSteps.Halves.{rounded}
use Rattle.model.proofs.AnyNumbers.Engine.{Ops}

pub record Exact {F : Type 0} (o : Ops F) (B : ℕ) (pt len : ℕ → F) : Type 0 where
  pub none_is : o.none ≡ len 0
  pub add-pt : (a b : ℕ) → a + b ≤ 4 * B → o.add (pt a) (len b) ≡ pt (a + b)
  pub add-len : (a b : ℕ) → a + b ≤ 4 * B → o.add (len a) (len b) ≡ len (a + b)
  pub high-len : (a b : ℕ) → a ≤ 4 * B → b ≤ 4 * B → o.high (len a) (len b) ≡ len (max a b)
  pub sub-pt : (a b : ℕ) → b ≤ a → a ≤ 4 * B → o.sub (pt a) (pt b) ≡ len (a - b)
  pub back-pt : (a b : ℕ) → b ≤ a → a ≤ 4 * B → o.sub (pt a) (len b) ≡ pt (a - b)
  pub round-pt : (a : ℕ) → a ≤ 4 * B → o.round (pt a) ≡ pt a
  pub inside-pt : (a : ℕ) → a ≤ 4 * B → T (o.inside (pt a)) → a ≤ 2 * B
  pub pt-inside : (a : ℕ) → a ≤ 2 * B → T (o.inside (pt a))
  pub start_of : (a H h : ℕ) → h ≤ H → a + H ≤ 2 * B
      → o.round (o.sub (o.half (o.add (pt a) (pt (a + H)))) (o.half (len h))) ≡ pt (rounded B (2 * a + (H - h)))
  pub end_of : (a H h : ℕ) → h ≤ H → a + H ≤ 2 * B
      → o.round (o.add (o.sub (o.half (o.add (pt a) (pt (a + H)))) (o.half (len h))) (len h)) ≡ pt (rounded B (2 * a + (H - h) + 2 * h))
  pub le-pt : (a b : ℕ) → a ≤ b → T (o.le (pt a) (pt b))
  pub le-len : (a b : ℕ) → a ≤ b → T (o.le (len a) (len b))
  -- any number of the domain, rounded, is such an edge
  pub some-pt : (x : F) → T (o.inside x) → (n : ℕ) × (n ≤ 2 * B) × (o.round x ≡ pt n)
