-- How the code reads a number of three or four digits.
use Rattle.std.specs.Prelude.{ℕ, ◌≤◌, ◌<◌, ◌≡◌, List, Some}
use Rattle.text.specs.Implementation.Scanning.{plus, scan}

-- least is 48, or 49 where a number begins
abbrev pub Digit : ℕ → ℕ → Type 0
Digit least b = (least ≤ b) × (b ≤ 57)

-- the columns hold n
abbrev pub Reads : List ℕ → ℕ → Type 0
Reads f n = (n < 100000000) × ((limit : ℕ) → plus limit (Some n) ≡ scan limit f)
