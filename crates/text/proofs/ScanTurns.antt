-- A turn of the loop that reads digits, and what each return answers. Assumes nothing.
use Rattle.std.proofs.Common.{ℕ, suc, ◌+◌, ◌-◌, ◌*◌, ◌^◌, ◌≤◌, ◌<◌, ◌≡◌, refl, ap, ◌∙◌, List, [], ◌∷◌, ◌==◌, length, get_or, drop, Bool, true, false, cond, not, position, Option, inl, inr, Some, None, IfSome, nat_lt, eqb, pos, ◌-ℤ◌, to_z, of_z, w32, arith, add-one, one-add, pow-suc, ltb-true, ltb-false, lt-ltb, le-ltb, le-leb, eq-eqb, ne_eqb, drop_of_length-le, drop-cons}
use Rattle.std.proofs.lemmas.Bool.{lt-leb}
use Rattle.std.specs.Char.{IsNotAsciiDigit}
use Rattle.std.specs.List.{position_or_len}
use Rattle.text.specs.Implementation.Scanning.{value_from, zero_only, unsigned, plus, minus, signed, scan}
use Rattle.text.specs.declared.Field.{Field}
use Rattle.text.specs.declared.Field.TheVariants.{Blank, Number, Wrong}
use Rattle.text.proofs.Columns.{tens-order}
use Rattle.text.proofs.Signs.{small-value, opposite-value}

pub from : (f : List ℕ) (i : ℕ) → i < length f → drop i f ≡ get_or f i 0 ∷ drop (i + 1) f
from f i h = drop-cons f i 0 h ∙ rw add-one

-- ---- value
pub few : (acc d i : ℕ) → acc < 10 ^ i → d ≤ 9 → acc * 10 + d < 10 ^ (i + 1)
few acc d i h l =
    let e : i + 1 ≡ suc i = omega arith in
    let p : 10 ^ (i + 1) ≡ 10 ^ i * 10 = ap (λ (j : ℕ). 10 ^ j) e ∙ pow-suc 10 i in
    omega (arith, h, l, p)

pub seven : (i : ℕ) → i < 8 → 10 ^ i ≤ 10000000
seven i h = let q : 10 ^ 7 ≡ 10000000 = refl in omega (arith, tens-order i 7 (omega arith), q)

pub eight : (i : ℕ) → i ≤ 8 → 10 ^ i ≤ 100000000
eight i h = let q : 10 ^ 8 ≡ 100000000 = refl in omega (arith, tens-order i 8 (omega arith), q)

module _ (f : List ℕ) (acc i : ℕ) (r : Option ℕ) (inv : value_from acc (drop i f) ≡ r) where
  pub value-end : length f ≤ i → Some acc ≡ r
  unfolding value_from
  value-end h = (rw (drop_of_length-le f h) at inv)

  module _ (h : i < length f) where
    pub not-digit : IsNotAsciiDigit (get_or f i 0) → None ≡ r
    unfolding value_from
    not-digit (inl l) = (rw (from f i h, lt-ltb (get_or f i 0) 48 l) at inv)
    not-digit (inr g) = (rw (from f i h, le-ltb (get_or f i 0) 48 (omega arith), lt-ltb 57 (get_or f i 0) g) at inv)

    pub value-turn : 48 ≤ get_or f i 0 → get_or f i 0 ≤ 57 → value_from (acc * 10 + (get_or f i 0 - 48)) (drop (i + 1) f) ≡ r
    unfolding value_from
    value-turn l g = (rw (from f i h, le-ltb (get_or f i 0) 48 l, le-ltb 57 (get_or f i 0) g) at inv)

-- ---- unsigned
pub no-digits : (f : List ℕ) → length f < 1 → None ≡ unsigned f
unfolding unsigned
no-digits [] h = refl
no-digits (b ∷ s) h = absurd (omega arith)

pub zero-alone : (f : List ℕ) → 1 ≤ length f → length f < 2 → get_or f 0 0 ≡ 48 → Some 0 ≡ unsigned f
unfolding unsigned zero_only
zero-alone [] g l e = absurd (omega arith)
zero-alone (b ∷ []) g l e = rw (eq-eqb b 48 e)
zero-alone (b ∷ c ∷ s) g l e = absurd (omega arith)

pub zero-first : (f : List ℕ) → 2 ≤ length f → get_or f 0 0 ≡ 48 → None ≡ unsigned f
unfolding unsigned zero_only
zero-first [] g e = absurd (omega arith)
zero-first (b ∷ []) g e = absurd (omega arith)
zero-first (b ∷ c ∷ s) g e = rw (eq-eqb b 48 e)

pub digits-first : (f : List ℕ) (v : Option ℕ) → 1 ≤ length f → (get_or f 0 0 ≡ 48 → ⊥) → v ≡ value_from 0 f → v ≡ unsigned f
unfolding unsigned
digits-first [] v g n e = absurd (omega arith)
digits-first (b ∷ s) v g n e = e ∙ rw (ne_eqb b 48 n)

-- ---- plus, minus
pub no-number-plus : (limit : ℕ) (n : Option ℕ) → n ≡ None → Wrong ≡ plus limit n
unfolding plus
no-number-plus limit n e = rw e

pub plus-far : (limit m : ℕ) (n : Option ℕ) → limit < m → n ≡ Some m → Wrong ≡ plus limit n
unfolding plus
plus-far limit m n h e = rw (e, lt-leb m limit h)

pub plus-given : (limit m : ℕ) (n : Option ℕ) → n ≡ Some m → m ≤ limit → IfSome n (λ m. m < 100000000) → Number (to_z w32 m) ≡ plus limit n
unfolding plus
plus-given limit m n e h s =
    let t : m < 100000000 = (rw e at s) in
    rw (e, le-leb m limit h) (ap Number (small-value m t))

pub no-number-minus : (limit : ℕ) (n : Option ℕ) → n ≡ None → Wrong ≡ minus limit n
unfolding minus
no-number-minus limit n e = rw e

pub minus-zero : (limit m : ℕ) (n : Option ℕ) → n ≡ Some m → m ≡ 0 → Wrong ≡ minus limit n
unfolding minus
minus-zero limit m n e z = rw (e, eq-eqb m 0 z)

pub minus-far : (limit m : ℕ) (n : Option ℕ) → limit < m → n ≡ Some m → Wrong ≡ minus limit n
unfolding minus
minus-far limit m n h e = rw (e, ne_eqb m 0 (λ (z : m ≡ 0). omega arith), lt-leb m limit h)

pub minus-given : (limit m : ℕ) (n : Option ℕ) → n ≡ Some m → (m ≡ 0 → ⊥) → m ≤ limit → IfSome n (λ m. m < 100000000)
    → Number (to_z w32 (of_z w32 (pos 0 -ℤ to_z w32 m))) ≡ minus limit n
unfolding minus
minus-given limit m n e z h s =
    let t : m < 100000000 = (rw e at s) in
    rw (e, ne_eqb m 0 z, le-leb m limit h) (ap Number (opposite-value m t))

-- each return of `plus` and of `minus`
pub ruleset sign_turns = (no-number-plus, plus-far, plus-given, no-number-minus, minus-zero, minus-far, minus-given)

-- ---- signed
pub minus-first : (f : List ℕ) (limit : ℕ) → 1 ≤ length f → get_or f 0 0 ≡ 45 → minus limit (unsigned (drop 1 f)) ≡ signed limit f
unfolding signed
minus-first [] limit g e = absurd (omega arith)
minus-first (b ∷ s) limit g e = rw (eq-eqb b 45 e)

pub no_columns : (f : List ℕ) (limit : ℕ) → length f < 1 → Wrong ≡ signed limit f
unfolding signed
no_columns [] limit h = refl
no_columns (b ∷ s) limit h = absurd (omega arith)

pub no_minus : (f : List ℕ) (limit : ℕ) → 1 ≤ length f → (get_or f 0 0 ≡ 45 → ⊥) → plus limit (unsigned f) ≡ signed limit f
unfolding signed
no_minus [] limit g n = absurd (omega arith)
no_minus (b ∷ s) limit g n = rw (ne_eqb b 45 n)

pub digits-read : (limit n b : ℕ) (s : List ℕ) → 49 ≤ b → Some n ≡ value_from 0 (b ∷ s) → plus limit (Some n) ≡ signed limit (b ∷ s)
digits-read limit n b s h e =
    ap (λ (r : Option ℕ). plus limit r) (digits-first (b ∷ s) (Some n) (omega arith) (λ (z : b ≡ 48). omega arith) e)
    ∙ no_minus (b ∷ s) limit (omega arith) (λ (z : b ≡ 45). omega arith)

-- ---- scan
module _ (limit : ℕ) (f : List ℕ) (i : ℕ) (r : Field) (inv : scan limit (drop i f) ≡ r) where
  pub scan-turn : i < length f → get_or f i 0 ≡ 32 → scan limit (drop (i + 1) f) ≡ r
  unfolding scan
  scan-turn h e = (rw (from f i h, eq-eqb (get_or f i 0) 32 e) at inv)

  pub scan-stop : i < length f → (get_or f i 0 ≡ 32 → ⊥) → signed limit (get_or f i 0 ∷ drop (i + 1) f) ≡ r
  unfolding scan
  scan-stop h e = (rw (from f i h, ne_eqb (get_or f i 0) 32 e) at inv)

-- blank where each column is a space; else what the columns from the first other one on say
abbrev pub from-begin : ℕ → List ℕ → Option ℕ → Field
from-begin limit f None = Blank
from-begin limit f (Some i) = signed limit (drop i f)

abbrev inked : ℕ → Bool
inked b = not (b == 32)

one-more : (limit b k : ℕ) (s : List ℕ) (r : Field) (x : Bool) → nat_lt k (length s) ≡ x → from-begin limit s (cond x (Some k) None) ≡ r
    → from-begin limit (b ∷ s) (cond (nat_lt (1 + k) (suc (length s))) (Some (1 + k)) None) ≡ r
one-more limit b k s r true t i = rw (lt-ltb (1 + k) (suc (length s)) (omega (arith, ltb-true k (length s) t)), one-add) i
one-more limit b k s r false t i = rw (le-ltb (1 + k) (suc (length s)) (omega (arith, ltb-false k (length s) t))) i

begin-at : (limit : ℕ) (f : List ℕ) → from-begin limit f (cond (nat_lt (position_or_len inked f) (length f)) (Some (position_or_len inked f)) None) ≡ scan limit f
unfolding scan
begin-at limit [] = refl
begin-at limit (b ∷ s) = go (eqb b 32) refl (begin-at limit s)
  where
    go : (x : Bool) → eqb b 32 ≡ x → from-begin limit s (position inked s) ≡ scan limit s → from-begin limit (b ∷ s) (position inked (b ∷ s)) ≡ cond x (scan limit s) (signed limit (b ∷ s))
    go true e i = rw e (one-more limit b (position_or_len inked s) s (scan limit s) _ refl i)
    go false e i = rw (e, lt-ltb 0 (suc (length s)) (omega arith))

pub scan-begin : (limit : ℕ) (f : List ℕ) → from-begin limit f (position inked f) ≡ scan limit f
scan-begin limit f = begin-at limit f
