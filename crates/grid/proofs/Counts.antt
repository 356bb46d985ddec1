-- Counts that an f32 holds. Assumes nothing.
use Rattle.std.proofs.Common.{ℕ, ◌≤◌, ◌^◌, T, pos, le→leb, arith}
use Rattle.std.specs.Float.{binary32}
use Rattle.std.specs.Float.Ieee.{in_float}

pub float-count : (n : ℕ) → n ≤ 128 → T (in_float binary32 (pos n))
unfolding in_float
float-count n h = le→leb n (2 ^ 24) (omega arith)
