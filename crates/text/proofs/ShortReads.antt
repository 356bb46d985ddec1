-- A number of three or four digits, from its columns. Assumes nothing.
use Rattle.std.proofs.Common.{ℕ, ◌+◌, ◌-◌, ◌*◌, ◌≤◌, ◌<◌, ◌≡◌, refl, sym, ◌∙◌, List, Bool, true, false, cond, ◌&&◌, true≢false, arith, eqb-true, eqb, Option, Some, None, IfSome, ap, length, get_or, drop}
use Rattle.text.specs.Implementation.Scanning.{value_from, plus, scan, Skips}
use Rattle.text.specs.Implementation.Short.{Digit, Reads}
use Rattle.text.proofs.ScanTurns.{from, value-turn, value-end, digits-read, scan-turn, scan-stop}

pub both : (x y : Bool) → x && y ≡ true → (x ≡ true) × (y ≡ true)
both true y h = (refl, h)
both false y h = absurd (true≢false (sym h))

-- ---- four columns at once: their number in base 256 is that of spaces only if each is one
pub four-skipped : (f : List ℕ) → 4 ≤ length f → ((i : ℕ) → get_or f i 0 < 256) → get_or f 0 0 + get_or f 1 0 * 256 + get_or f 2 0 * 65536 + get_or f 3 0 * 16777216 ≡ 538976288 → Skips f 4
four-skipped f l b e limit = turn 3 (turn 2 (turn 1 (turn 0 refl (omega arith) zeroth) (omega arith) first) (omega arith) second) (omega arith) third
  where
    turn : (i : ℕ) → scan limit (drop i f) ≡ scan limit f → i < length f → get_or f i 0 ≡ 32 → scan limit (drop (i + 1) f) ≡ scan limit f
    turn i = scan-turn limit f i (scan limit f)

    third : get_or f 3 0 ≡ 32
    third = omega (arith, e, b 0, b 1, b 2, b 3)

    second : get_or f 2 0 ≡ 32
    second = omega (arith, e, b 0, b 1, b 2, third)

    first : get_or f 1 0 ≡ 32
    first = omega (arith, e, b 0, b 1, second, third)

    zeroth : get_or f 0 0 ≡ 32
    zeroth = omega (arith, e, first, second, third)

-- ---- digits from a column on, the first of them not 0
module _ (f : List ℕ) (i n : ℕ) (h : i < length f) (k : Skips f i) (l : 49 ≤ get_or f i 0) (e : Some n ≡ value_from 0 (drop i f)) where
  begins : (limit : ℕ) → plus limit (Some n) ≡ scan limit f
  begins limit =
      digits-read limit n _ _ l (e ∙ ap (value_from 0) (from f i h)) ∙ scan-stop limit f i (scan limit f) (k limit) h (λ z. omega arith)

module _ (f : List ℕ) (l : 8 ≡ length f) where
  turn : (i acc : ℕ) (r : Option ℕ) → i < 8 → Digit 48 (get_or f i 0) → value_from acc (drop i f) ≡ r → value_from (acc * 10 + (get_or f i 0 - 48)) (drop (i + 1) f) ≡ r
  turn i acc r h d e = value-turn f acc i r e (omega arith) d.0 d.1

  -- from column 5 on
  three : (r : Option ℕ) (acc : ℕ) → Digit 48 (get_or f 5 0) → Digit 48 (get_or f 6 0) → Digit 48 (get_or f 7 0) → value_from acc (drop 5 f) ≡ r → Some (acc * 1000 + (get_or f 5 0 - 48) * 100 + (get_or f 6 0 - 48) * 10 + (get_or f 7 0 - 48)) ≡ r
  three r acc b c d e =
      let v = value-end f _ 8 r (turn 7 _ r (omega arith) d (turn 6 _ r (omega arith) c (turn 5 acc r (omega arith) b e))) (omega arith) in
      ap Some (omega arith) ∙ v

  pub columns-read : (blank : Bool) → eqb (get_or f 4 0) 32 ≡ blank → Skips f 4 → Digit 49 (cond blank (get_or f 5 0) (get_or f 4 0)) → Digit 48 (get_or f 5 0) → Digit 48 (get_or f 6 0) → Digit 48 (get_or f 7 0)
      → Reads f (cond blank 0 (get_or f 4 0 - 48) * 1000 + (get_or f 5 0 - 48) * 100 + (get_or f 6 0 - 48) * 10 + (get_or f 7 0 - 48))
  columns-read true e k g b c d = (omega (arith, b, c, d), begins f 5 _ (omega arith) (λ limit. scan-turn limit f 4 (scan limit f) (k limit) (omega arith) (eqb-true (get_or f 4 0) 32 e)) g.0 (three _ 0 b c d refl))
  columns-read false e k g b c d =
      let a : Digit 48 (get_or f 4 0) = (omega (arith, g.0), g.1) in
      let r = value_from 0 (drop 4 f) in
      (omega (arith, a, b, c, d), begins f 4 _ (omega arith) k g.0 (ap Some (omega arith) ∙ three r _ b c d (turn 4 0 r (omega arith) a refl)))

pub short-read : (f : List ℕ) (limit : ℕ) (n : Option ℕ) → (n ≡ None → ⊥) → IfSome n (Reads f) → plus limit n ≡ scan limit f
short-read f limit None h r = absurd (h refl)
short-read f limit (Some n) h r = r.1 limit
