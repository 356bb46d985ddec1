-- RULES 6.25: what holds of hundredths of a millimetre in steps of 1 / 2 ^ k point. A part is 1/635 of a step.
use Rattle.std.specs.Prelude.{ℕ, ◌*◌, ◌≤◌, ◌≡◌, List, [], ◌∷◌, map, ℤ, pos, neg_ℤ, ◌+ℤ◌, ◌*ℤ◌, length, ◌≤ℤ◌, ◌<ℤ◌}
use Rattle.records.specs.Units.{quarter_inch, from_hundredths}

-- RULES 6.25: a and b are at most n apart
pub record Near (n : ℕ) (a b : ℤ) : Type 0 where
  pub over : a ≤ℤ (b +ℤ pos n)
  pub under : b ≤ℤ (a +ℤ pos n)

-- RULES 6.25: y steps are so many parts, and z hundredths so many
abbrev pub step_parts : ℤ → ℤ
step_parts y = pos 635 *ℤ y

abbrev pub hundredth_parts : ℕ → ℤ → ℤ
hundredth_parts k z = pos (quarter_inch k) *ℤ z

-- RULES 6.25: the sum of some numbers
unfoldable pub total : List ℤ → ℤ
total [] = pos 0
total (z ∷ zs) = z +ℤ total zs

-- RULES 6.25, claim by claim
pub record Converts (k : ℕ) : Type 0 where
  -- the steps are at most 317 parts away, and no other number of steps is
  pub near : (z : ℤ) → Near 317 (step_parts (from_hundredths k z)) (hundredth_parts k z)
  pub only : (z y : ℤ) → Near 317 (step_parts y) (hundredth_parts k z) → y ≡ from_hundredths k z
  -- so nothing is exactly between two steps: half a step is 317 parts and a half
  pub no-half : (z y : ℤ) → (pos 2 *ℤ hundredth_parts k z ≡ step_parts (pos 2 *ℤ y +ℤ pos 1)) → ⊥
  -- more hundredths are never fewer steps
  pub order : (y z : ℤ) → y ≤ℤ z → from_hundredths k y ≤ℤ from_hundredths k z
  -- below zero as above it, and from a tick on no length is lost
  pub mirrored : (z : ℤ) → from_hundredths k (neg_ℤ z) ≡ neg_ℤ (from_hundredths k z)
  pub positive : 5 ≤ k → (z : ℤ) → pos 0 <ℤ z → pos 0 <ℤ from_hundredths k z
  pub negative : 5 ≤ k → (z : ℤ) → z <ℤ pos 0 → from_hundredths k z <ℤ pos 0
  -- so many lengths together are at most 317 parts away for each
  pub together : (zs : List ℤ) → Near (317 * length zs) (step_parts (total (map (from_hundredths k) zs))) (hundredth_parts k (total zs))
