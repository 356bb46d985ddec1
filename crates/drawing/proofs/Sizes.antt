-- How long a drawing can be: a template is at most as long as its bytes, each number in it eight bytes; so a drawing has room. Assumes
-- nothing.
use Rattle.std.proofs.Common.{ℕ, ◌+◌, ◌%◌, ◌≤◌, ◌≡◌, refl, Bool, true, false, cond, List, [], ◌∷◌, arith, eqb, lit≤, ℤ, length, get_or}
use Rattle.text.specs.Fields.{text, columns}
use Rattle.drawing.specs.Pieces.{field_of, ink, inked, numeral, marked, unmarked, part, next, filled_from, joined}
use Rattle.drawing.proofs.Room.{size, size-append}

-- ---- templates
ink-size : (b : ℕ) → size (ink b) ≤ 1
unfolding ink joined
ink-size b = go (eqb b 32)
  where
    go : (t : Bool) → size (cond t [] ((b ∷ []) ∷ [])) ≤ 1
    go true = lit≤ tt
    go false = lit≤ tt

inked-size : (bs : List ℕ) → size (inked bs) ≤ length bs
unfolding inked joined
inked-size [] = lit≤ tt
inked-size (b ∷ bs) = omega (arith, size-append (ink b) (inked bs), ink-size b, inked-size bs)

pub text-size : (z : ℤ) → length (text z) ≡ 8
unfolding columns
text-size z = refl

-- what a byte of a template takes at the most, after a mark or after none
unfoldable pub taken : ℕ → ℕ → ℕ
taken mark b = cond (eqb mark 36) 8 (cond (eqb mark 64) 8 (cond (eqb mark 126) 8 (cond (eqb (marked b) 0) 1 0)))

part-size : (mark b : ℕ) (s : List ℕ) (line : ℕ) (ns : List ℕ) → size (part mark b s line ns) ≤ taken mark b
unfolding part taken unmarked joined columns
part-size mark b s line ns = go (eqb mark 36) (eqb mark 64) (eqb mark 126) (eqb (marked b) 0)
  where
    z : ℤ
    z = field_of s line (b % 16)

    n : ℤ
    n = numeral (get_or ns (b % 16) 0)

    go : (x y u v : Bool) → size (cond x (inked (text z)) (cond y (text z ∷ []) (cond u (inked (text n)) (cond v ((b ∷ []) ∷ []) [])))) ≤ cond x 8 (cond y 8 (cond u 8 (cond v 1 0)))
    go true y u v = omega (arith, inked-size (text z), text-size z)
    go false true u v = lit≤ tt
    go false false true v = omega (arith, inked-size (text n), text-size n)
    go false false false true = lit≤ tt
    go false false false false = lit≤ tt

unfoldable pub most : ℕ → List ℕ → ℕ
most mark [] = 0
most mark (b ∷ t) = taken mark b + most (next mark b) t

pub filled-size : (mark : ℕ) (t s : List ℕ) (line : ℕ) (ns : List ℕ) → size (filled_from mark t s line ns) ≤ most mark t
unfolding filled_from most joined
filled-size mark [] s line ns = lit≤ tt
filled-size mark (b ∷ t) s line ns =
    omega (arith, size-append (part mark b s line ns) (filled_from (next mark b) t s line ns), part-size mark b s line ns, filled-size (next mark b) t s line ns)
