-- The loops over controls: a turn of each, and what each return answers. Assumes nothing.
use Rattle.std.proofs.Common.{ℕ, zero, suc, ◌+◌, ◌-◌, ◌≤◌, ◌<◌, ◌≡◌, refl, true, false, List, [], ◌++◌, arith}
use Rattle.drawing.specs.Drawings.{shares, seen, one, each}
use Rattle.drawing.specs.declared.Layer.{Layer}
use Rattle.drawing.specs.declared.Page.{Page}
use Rattle.drawing.specs.declared.Shared.{Shared}

-- ---- an earlier control that shares something
module _ (what : Shared) (p : Page) (s : List ℕ) (k : ℕ) where
  pub seen-hit : (j : ℕ) → 0 < j → shares what p s (j - 1) k ≡ true → true ≡ seen what p s j k
  unfolding seen
  seen-hit zero h t = absurd (omega arith)
  seen-hit (suc j) h t = let e : suc j - 1 ≡ j = omega arith in rw (rw e at t)

  pub seen-turn : (j : ℕ) → 0 < j → shares what p s (j - 1) k ≡ false → seen what p s j k ≡ seen what p s (j - 1) k
  unfolding seen
  seen-turn zero h t = absurd (omega arith)
  seen-turn (suc j) h t = let e : suc j - 1 ≡ j = omega arith in rw (rw e at t, e)

  pub seen_end : (j : ℕ) → j ≤ 0 → false ≡ seen what p s j k
  unfolding seen
  seen_end zero h = refl
  seen_end (suc j) h = absurd (omega arith)

-- ---- a layer
module _ (layer : Layer) (p : Page) (s : List ℕ) where
  pub each_turn : (left i : ℕ) → 0 < left → each layer p s left i ≡ one layer p s i ++ each layer p s (left - 1) (i + 1)
  unfolding each
  each_turn zero i h = absurd (omega arith)
  each_turn (suc left) i h = let e : suc left - 1 ≡ left = omega arith in rw e

  pub each-end : (left i : ℕ) → left ≤ 0 → each layer p s left i ≡ []
  unfolding each
  each-end zero i h = refl
  each-end (suc left) i h = absurd (omega arith)
