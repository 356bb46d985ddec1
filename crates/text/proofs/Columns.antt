-- Powers of ten, and what stands in one column of a number's text. Assumes nothing.
use Rattle.std.proofs.Common.{ℕ, zero, suc, ◌+◌, ◌/◌, ◌%◌, ◌^◌, max, ◌≤◌, ◌<◌, zero-le, ◌≡◌, refl, ap, sym, ◌∙◌, Bool, true, false, cond, arith, pow-suc, le-leb, leb-true, leb-false, leb, lit<, length}
use Rattle.std.proofs.Math.Nat.{pow-le-pow_right, div-div-eq-div-mul, div-eq_of_lt}
use Rattle.std.proofs.lemmas.Bool.{lt-leb}
use Rattle.text.specs.Fields.{shown, column, columns}

-- ---- powers of ten
pub tens-order : (i j : ℕ) → i ≤ j → 10 ^ i ≤ 10 ^ j
tens-order i j h = pow-le-pow_right {n = 10} (lit< tt) {i = i} {j = j} h

pub ten-pos : (k : ℕ) → 0 < 10 ^ k
ten-pos k = tens-order 0 k zero-le

pub ten-at-least : (k : ℕ) → 1 ≤ k → 10 ≤ 10 ^ k
ten-at-least zero h = absurd (omega arith)
ten-at-least (suc k) h = omega (arith, pow-suc 10 k, ten-pos k)

pub next_power : (n k : ℕ) → n / 10 ^ suc k ≡ n / 10 ^ k / 10
next_power n k = ap (λ (m : ℕ). n / m) (pow-suc 10 k) ∙ sym (div-div-eq-div-mul n (10 ^ k) 10)

pub reaches : (n m : ℕ) → 1 ≤ n / m → m ≤ n
reaches n m h = go (leb m n) refl
  where
    go : (b : Bool) → leb m n ≡ b → m ≤ n
    go true e = leb-true m n e
    go false e = let z : n / m ≡ 0 = div-eq_of_lt (leb-false m n e) in absurd (omega (arith, z))

pub below-eight : (n k : ℕ) → n < 100000000 → 10 ^ k ≤ max n 1 → k < 8
below-eight n k h t = go (leb 8 k) refl
  where
    go : (b : Bool) → leb 8 k ≡ b → k < 8
    go true e = let q : 10 ^ 8 ≡ 100000000 = refl in absurd (omega (arith, tens-order 8 k (leb-true 8 k e), q))
    go false e = leb-false 8 k e

-- ---- a digit, the minus, a space
pub not-shown : (n k : ℕ) → 1 ≤ k → n < 10 ^ k → shown n (10 ^ k) ≡ false
not-shown n k h l = lt-leb (10 ^ k) (max n 1) (omega (arith, ten-at-least k h))

pub digit_at : (neg : Bool) (n k : ℕ) → 10 ^ k ≤ max n 1 → column neg n k ≡ 48 + n / 10 ^ k % 10
unfolding column
digit_at neg n k h = rw (le-leb (10 ^ k) (max n 1) h)

pub minus-at : (n k : ℕ) → shown n (10 ^ k) ≡ false → shown n (10 ^ k / 10) ≡ true → column true n k ≡ 45
unfolding column
minus-at n k e s = simp (e, s)

pub blank-at : (n k : ℕ) → shown n (10 ^ k) ≡ false → column false n k ≡ 32
unfolding column
blank-at n k e = simp e

pub space-at : (n k : ℕ) → shown n (10 ^ k) ≡ false → shown n (10 ^ k / 10) ≡ false → column true n k ≡ 32
unfolding column
space-at n k e s = rw (e, s)

-- no column but a digit's reads as one
pub no-digit-at : (neg : Bool) (n k : ℕ) → shown n (10 ^ k) ≡ false → column neg n k < 48
unfolding column
no-digit-at neg n k e = rw e (by neg (shown n (10 ^ k / 10)))
  where
    by : (neg t : Bool) → cond neg (cond t 45 32) 32 < 48
    by true true = omega arith
    by true false = omega arith
    by false t = omega arith

-- ---- all of them
pub columns-length : (neg : Bool) (n k : ℕ) → length (columns neg n k) ≡ k
unfolding columns
columns-length neg n zero = refl
columns-length neg n (suc k) = ap suc (columns-length neg n k)
