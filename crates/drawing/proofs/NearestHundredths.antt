-- The hundredths of a millimetre that a drawing shows are at most half of one from the length (RULES 7.12), for any number of steps in a
-- point. A point has 635 / 18 hundredths. Assumes nothing.
use Rattle.std.proofs.Common.{ℕ, ◌+◌, ◌*◌, ◌≤◌, ◌<◌, arith, div-mul-le_self}
use native.Mathlib.Nat.{lt-div-mul-add}
use Rattle.drawing.specs.Pictures.{hundredths}

pub shown-near : (per_point n : ℕ) → 0 < per_point
    → (hundredths per_point n * (18 * per_point) ≤ 635 * n + 9 * per_point) × (635 * n ≤ hundredths per_point n * (18 * per_point) + 9 * per_point)
unfolding hundredths
shown-near per_point n h =
    let low = div-mul-le_self (635 * n + 9 * per_point) (18 * per_point) in
    let high = lt-div-mul-add {a = 635 * n + 9 * per_point} {b = 18 * per_point} (omega arith) in
    (omega (arith, low), omega (arith, high))
