-- A line's numbers, one after the other: a turn of each loop, and what each return answers. Assumes nothing.
use Rattle.std.proofs.Common.{ℕ, suc, ◌+◌, ◌*◌, ◌≤◌, ◌<◌, ◌≡◌, refl, ap, sym, ◌∙◌, List, [], ◌∷◌, ◌++◌, length, get_or, drop, set, Bool, true, false, cond, ◌&&◌, ℤ, pos, nat_abs, arith, add-one, add-zero, le-leb, drop_of_length-le, drop-cons, length-append}
use Rattle.std.proofs.lemmas.Bool.{lt-leb}
use Rattle.std.proofs.lemmas.List.Edits.{sets}
use Rattle.std.specs.List.{list_all}
use Rattle.text.specs.Fields.{text, negative, has_text}
use Rattle.text.specs.Lines.{texts, have_texts, line, line_at}
use Rattle.text.proofs.Columns.{columns-length}

-- the numbers from i on begin with number i
from : (zs : List ℤ) (i : ℕ) → i < length zs → drop i zs ≡ get_or zs i (pos 0) ∷ drop (i + 1) zs
from zs i h = drop-cons zs i (pos 0) h ∙ rw add-one

-- ---- have_texts
pub all-have : (zs : List ℤ) → list_all has_text zs ≡ have_texts zs
unfolding have_texts
all-have [] = refl
all-have (z ∷ zs) = by (has_text z) (all-have zs)
  where
    by : (b : Bool) → list_all has_text zs ≡ have_texts zs → (b && list_all has_text zs) ≡ cond b (have_texts zs) false
    by true e = e
    by false e = refl

have-step : (zs : List ℤ) (i : ℕ) → i < length zs → have_texts (drop i zs) ≡ cond (has_text (get_or zs i (pos 0))) (have_texts (drop (i + 1) zs)) false
unfolding have_texts
have-step zs i h = rw (from zs i h)

-- ---- put_texts
pub texts-length : (zs : List ℤ) → length (texts zs) ≡ 8 * length zs
unfolding texts
texts-length [] = refl
texts-length (z ∷ zs) = omega (arith, length-append (text z) (texts zs), columns-length (negative z) (nat_abs z) 8, texts-length zs)

pub sets-append : (xs ys l : List ℕ) (i : ℕ) → sets l i (xs ++ ys) ≡ sets (sets l i xs) (i + length xs) ys
sets-append [] ys l i = ap (λ (k : ℕ). sets l k ys) (sym (add-zero i))
sets-append (a ∷ xs) ys l i =
    let e : suc i + length xs ≡ i + suc (length xs) = omega arith in
    sets-append xs ys (set l i a) (suc i) ∙ ap (λ (k : ℕ). sets (sets (set l i a) (suc i) xs) k ys) e

text-then : (z : ℤ) (ys l : List ℕ) (i : ℕ) → sets l i (text z ++ ys) ≡ sets (sets l i (text z)) (i + 8) ys
text-then z ys l i = sets-append (text z) ys l i ∙ ap (λ (k : ℕ). sets (sets l i (text z)) (i + k) ys) (columns-length (negative z) (nat_abs z) 8)

texts-step : (zs : List ℤ) (i : ℕ) → i < length zs → texts (drop i zs) ≡ text (get_or zs i (pos 0)) ++ texts (drop (i + 1) zs)
unfolding texts
texts-step zs i h = rw (from zs i h)

all_of : (a b : Bool) → cond a b false ≡ true → (a ≡ true) × (b ≡ true)
all_of true b h = (refl, h)
all_of false b h = let o : ◌≡◌ {A = ℕ} 0 1 = cc in absurd (omega arith)

module _ (zs : List ℤ) (i : ℕ) (h : i < length zs) (have : have_texts (drop i zs) ≡ true) where
  pub have-this : has_text (get_or zs i (pos 0)) ≡ true
  have-this = (all_of (has_text (get_or zs i (pos 0))) (have_texts (drop (i + 1) zs)) (sym (have-step zs i h) ∙ have)).0

  pub have-rest : have_texts (drop (i + 1) zs) ≡ true
  have-rest = (all_of (has_text (get_or zs i (pos 0))) (have_texts (drop (i + 1) zs)) (sym (have-step zs i h) ∙ have)).1

  pub put-more : (out o r : List ℕ) (q : ℕ) → sets out q (texts (drop i zs)) ≡ r → o ≡ sets out q (text (get_or zs i (pos 0))) → sets o (q + 8) (texts (drop (i + 1) zs)) ≡ r
  put-more out o r q inv e =
      ap (λ (l : List ℕ). sets l (q + 8) (texts (drop (i + 1) zs))) e
      ∙ sym (text-then (get_or zs i (pos 0)) (texts (drop (i + 1) zs)) out q)
      ∙ ap (λ (ys : List ℕ). sets out q ys) (sym (texts-step zs i h)) ∙ inv

pub put-none : (zs : List ℤ) (i : ℕ) (out r : List ℕ) (q : ℕ) → length zs ≤ i → sets out q (texts (drop i zs)) ≡ r → out ≡ r
unfolding texts
put-none zs i out r q h inv = (rw (drop_of_length-le zs h) at inv)

-- ---- put_line
pub line-put : (zs : List ℤ) (letter at : ℕ) (out o : List ℕ) → o ≡ sets (set out at letter) (at + 1) (texts zs) → set o (at + 1 + 8 * length zs) 10 ≡ sets out at (line letter zs)
unfolding line
line-put zs letter at out o e =
    let n : at + 1 + length (texts zs) ≡ at + 1 + 8 * length zs = ap (λ (k : ℕ). at + 1 + k) (texts-length zs) in
    let p : suc at ≡ at + 1 = omega arith in
    sym (ap (λ (i : ℕ). sets (set out at letter) i (texts zs ++ (10 ∷ []))) p
    ∙ sets-append (texts zs) (10 ∷ []) (set out at letter) (at + 1)
    ∙ ap (λ (l : List ℕ). sets l (at + 1 + length (texts zs)) (10 ∷ [])) (sym e)
    ∙ ap (λ (i : ℕ). sets o i (10 ∷ [])) n)

-- ---- write_line
module _ (out : List ℕ) (at letter : ℕ) (zs : List ℤ) where
  pub no-room-for-line : length out < at + (2 + 8 * length zs) → (false, out) ≡ line_at out at letter zs
  unfolding line_at
  no-room-for-line h = rw (lt-leb (at + (2 + 8 * length zs)) (length out) h)

  pub no-texts : at + (2 + 8 * length zs) ≤ length out → have_texts zs ≡ false → (false, out) ≡ line_at out at letter zs
  unfolding line_at
  no-texts h t = rw (le-leb (at + (2 + 8 * length zs)) (length out) h, t)

  pub line-there : (o : List ℕ) → at + (2 + 8 * length zs) ≤ length out → have_texts zs ≡ true → o ≡ sets out at (line letter zs) → (true, o) ≡ line_at out at letter zs
  unfolding line_at
  line-there o h t e = rw (le-leb (at + (2 + 8 * length zs)) (length out) h, t) (ap (λ (l : List ℕ). (true, l)) e)
