-- RULES 1.2, 1.17: lengths counted in steps of 1 / 2 ^ k point, the words of the laws in proofs/, for every k.
use Rattle.std.specs.Prelude.{◌≡◌, ℕ, ◌+◌, ◌*◌, ◌^◌, ◌≤◌, Bool, true, false, ℤ, pos, negsuc, neg_ℤ, unsigned_abs, Float}
use Rattle.std.specs.Float.{fin, binary32}
use Rattle.std.specs.Float.Ieee.{up, down, round}
use Rattle.emath.specs.Rectangles.{near_up}

-- ---- RULES 1.2: so many steps as an f32
-- a tick is 1 / 2 ^ tick point
abbrev pub tick : ℕ
tick = 5

-- the f32 of 2 ^ j
abbrev pub two : ℕ → Float
two j = fin false 1 (pos j)

-- whether a whole number is negative; and n with the sign s
abbrev pub sgn : ℤ → Bool
sgn (pos n) = false
sgn (negsuc n) = true

abbrev pub signed : Bool → ℕ → ℤ
signed false n = pos n
signed true n = neg_ℤ (pos n)

-- RULES 1.2: z steps are z / 2 ^ k, rounded to an f32. It is exact where z is at most 2 ^ 24 in magnitude and k at most 149. A zero is +0.
unfoldable pub val : ℕ → ℤ → Float
val k z = round binary32 (sgn z) (unsigned_abs z) (2 ^ k)

-- RULES 1.17: z / 2 ^ i to the nearest whole number, a half away from zero
abbrev pub round_z : ℕ → ℤ → ℤ
round_z i z = signed (sgn z) (near_up (unsigned_abs z) (2 ^ i))

-- RULES 1.17: y is x to the nearest step, where x is ±m * 2 ^ e with the sign s: n steps, a whole number, with x's sign, at most half a
-- step from x; for a tick that is 1/64 point. The bound |n / 2 ^ k - x| ≤ 1 / 2 ^ (k + 1) stands over whole numbers, times 2 * 2 ^ k and
-- x's denominator.
pub record HalfStep (k : ℕ) (s : Bool) (m : ℕ) (e : ℤ) (y : Float) : Type 0 where
  pub steps : ℕ
  pub is : y ≡ val k (signed s steps)
  pub few : steps ≤ 2 ^ 24
  pub high : steps * down e * 2 ≤ m * up e * 2 ^ k * 2 + down e
  pub low : m * up e * 2 ^ k * 2 ≤ steps * down e * 2 + down e

-- RULES 1.2: the limit of 65,536 points in steps
abbrev pub most : ℕ → ℕ
most k = 65536 * 2 ^ k

-- RULES 1.17: x is a whole number of steps of the domain
pub record Edge (k : ℕ) (x : Float) : Type 0 where
  pub steps : ℤ
  pub few : unsigned_abs steps ≤ most k
  pub is : x ≡ val k steps
