-- RULES 6.2 to 6.4: a number in eight columns, as text; how it is read, and how it is written.
use Rattle.std.specs.Prelude.{ℕ, zero, suc, ◌+◌, ◌-◌, ◌*◌, ◌/◌, ◌%◌, ◌^◌, max, List, [], ◌∷◌, Bool, true, false, cond, ◌&&◌, ℤ, pos, negsuc, neg_ℤ, nat_abs, leb, ltb, eqb, length, take, drop}
use Rattle.std.proofs.lemmas.List.Edits.{sets}
use Rattle.text.specs.Letters as letters
use Rattle.text.specs.declared.Field.{Field}
use Rattle.text.specs.declared.Field.TheVariants.{Blank, Number, Wrong}

-- ---- RULES 6.2: the text of a number
-- the column of 10 ^ j has a digit: j is 0, or n is at least 10 ^ j
abbrev pub shown : ℕ → ℕ → Bool
shown n p = leb p (max n 1)

-- a digit; the minus left of the first digit; else a space
unfoldable pub column : Bool → ℕ → ℕ → ℕ
column neg n j =
    cond (shown n (10 ^ j)) (letters.ZERO + n / 10 ^ j % 10)
    (cond neg (cond (shown n (10 ^ j / 10)) letters.MINUS letters.SPACE) letters.SPACE)

-- the last k columns of n, the leftmost first
unfoldable pub columns : Bool → ℕ → ℕ → List ℕ
columns neg n zero = []
columns neg n (suc k) = column neg n k ∷ columns neg n k

-- RULES 6.2: a number's sign, and all of its eight columns
abbrev pub negative : ℤ → Bool
negative (pos n) = false
negative (negsuc n) = true

abbrev pub text : ℤ → List ℕ
text z = columns (negative z) (nat_abs z) 8

-- RULES 6.2: a number has a text if its digits, and the minus before them, fit the columns
unfoldable pub has_text : ℤ → Bool
has_text (pos n) = ltb n 100000000
has_text (negsuc n) = ltb n 9999999

-- ---- RULES 6.3: reading
-- one digit more, as long as there are fewer than eight
unfoldable pub grow : ℕ → ℕ → ℕ
grow acc b = cond (ltb 9999999 acc) acc (cond (ltb b letters.ZERO) acc (cond (ltb letters.NINE b) acc (acc * 10 + (b - letters.ZERO))))

unfoldable pub digits_from : ℕ → List ℕ → ℕ
digits_from acc [] = acc
digits_from acc (b ∷ bs) = digits_from (grow acc b) bs

-- whether two texts are the same bytes, and whether one is spaces only
unfoldable pub same : List ℕ → List ℕ → Bool
same [] [] = true
same [] (y ∷ ys) = false
same (x ∷ xs) [] = false
same (x ∷ xs) (y ∷ ys) = cond (eqb x y) (same xs ys) false

unfoldable pub blank : List ℕ → Bool
blank [] = true
blank (x ∷ xs) = cond (eqb x letters.SPACE) (blank xs) false

-- RULES 6.3: the number whose text the columns are, its magnitude at most the limit: the digits say which it can only be
unfoldable pub number_of : ℕ → ℕ → List ℕ → Field
number_of limit n f =
    cond (ltb limit n) Wrong
    (cond (same f (text (pos n))) (Number (pos n))
    (cond (same f (text (neg_ℤ (pos n)))) (Number (neg_ℤ (pos n))) Wrong))

unfoldable pub field : ℕ → List ℕ → Field
field limit f = cond (blank f) Blank (number_of limit (digits_from 0 f) f)

-- RULES 6.3: the eight columns from a place; wrong where there are fewer
unfoldable pub field_at : ℕ → List ℕ → ℕ → Field
field_at limit s at = cond (leb (at + 8) (length s)) (field limit (take 8 (drop at s))) Wrong

-- ---- RULES 6.4: writing
-- whether it was written, and what the slice then holds: only the eight places change, and none where they are not all there or the number
-- has no text
unfoldable pub written_at : List ℕ → ℕ → ℤ → Bool × List ℕ
written_at out at z = cond (leb (at + 8) (length out) && has_text z) (true, sets out at (text z)) (false, out)
