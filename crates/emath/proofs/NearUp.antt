-- `near_up n d`, the whole number nearest to n / d with a half upward: it sees the value alone, is at most half from it, keeps the order,
-- and leaves a whole number as it is. Assumes nothing.
use Rattle.std.proofs.Common.{◌≡◌, ℕ, ◌+◌, ◌*◌, ◌<◌, ◌≤◌, le_of_suc-le-suc, div-lt_iff_lt-mul, mul-le-mul_left, div-mul-le_self, arith}
use native.Mathlib.Nat.{lt-div-mul-add}
use lib.Ieee.Nearest.{div_same, div_mono}
use Rattle.emath.specs.Rectangles.{near_up}

pub near_up-same : (n d A c : ℕ) → 0 < d → 0 < c → n * c ≡ A * d → near_up n d ≡ near_up A c
near_up-same n d A c D C h = div_same (n * 2 + d) (d * 2) (A * 2 + c) (c * 2) (omega arith) (omega arith) (omega arith)

pub near_up-le : (n d : ℕ) → 0 < d → near_up n d ≤ n
near_up-le n d D =
    let d2 : 0 < d * 2 = omega arith in
    le_of_suc-le-suc ((div-lt_iff_lt-mul d2).1 (omega (arith, mul-le-mul_left n D)))

pub near-high : (A d : ℕ) → 0 < d → near_up A d * d * 2 ≤ A * 2 + d
near-high A d D = omega (arith, div-mul-le_self (A * 2 + d) (d * 2))

pub near-low : (A d : ℕ) → 0 < d → A * 2 ≤ near_up A d * d * 2 + d
near-low A d D = let d2 : 0 < d * 2 = omega arith in omega (arith, lt-div-mul-add {a = A * 2 + d} d2)

pub near-whole : (A : ℕ) → near_up A 1 ≡ A
near-whole A = omega arith

pub near-mono : (A d B e : ℕ) → 0 < d → 0 < e → A * e ≤ B * d → near_up A d ≤ near_up B e
near-mono A d B e D E h = div_mono (A * 2 + d) (d * 2) (B * 2 + e) (e * 2) (omega arith) (omega arith) (omega arith)
