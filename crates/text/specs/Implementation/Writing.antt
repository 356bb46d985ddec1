-- How the code writes a number: its digits over spaces, from the last ones on, and then the minus.
use Rattle.std.specs.Prelude.{ℕ, zero, suc, ◌+◌, ◌-◌, ◌/◌, ◌%◌, ◌^◌, max, ◌≤◌, ◌<◌, ◌≡◌, List, [], ◌∷◌, Bool, cond, ltb, set}
use Rattle.std.proofs.lemmas.List.Edits.{sets}
use Rattle.text.specs.Letters as letters
use Rattle.text.specs.Fields.{columns}

-- so many spaces
unfoldable pub spaces : ℕ → List ℕ
spaces zero = []
spaces (suc k) = letters.SPACE ∷ spaces k

-- two digits from a place on
unfoldable pub pair_put : List ℕ → ℕ → ℕ → List ℕ
pair_put out at n = set (set out (at + 1) (letters.ZERO + n % 10)) at (letters.ZERO + n / 10)

-- one digit left of the end, or two; and where they begin
unfoldable pub first_put : List ℕ → ℕ → ℕ → ℕ × List ℕ
first_put out end n = cond (ltb n 10) (end - 1, set out (end - 1) (letters.ZERO + n)) (end - 2, pair_put out (end - 2) n)

-- n has k digits, zero one
pub record Digits (n k : ℕ) : Type 0 where
  pub some : 1 ≤ k
  pub no_more : n < 10 ^ k
  pub no-fewer : 10 ^ k / 10 ≤ max n 1

-- from r up to the end stand the digits of n, and else what was there
pub record DigitsPut (n : ℕ) (out : List ℕ) (end r : ℕ) (out' : List ℕ) : Type 0 where
  pub before : r ≤ end
  pub few : end - r ≤ 8
  pub digits : Digits n (end - r)
  pub written : (neg : Bool) → out' ≡ sets out r (columns neg n (end - r))
