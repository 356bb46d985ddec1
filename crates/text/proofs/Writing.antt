-- The digit writer: the digits of n over eight spaces, from the last ones on, and then the minus, are the columns of n. Assumes nothing.
use Rattle.std.proofs.Common.{ℤ, nat_abs, ℕ, zero, suc, ◌+◌, ◌-◌, ◌*◌, ◌/◌, ◌%◌, ◌^◌, max, ◌≤◌, ◌<◌, ◌≡◌, refl, ap, sym, ◌∙◌, subst, List, [], ◌∷◌, ◌++◌, length, take, drop, set, Bool, true, false, ◌&&◌, true≢false, ltb, arith, pow-suc, div-one, div-le_self, div-lt_iff_lt-mul, le-leb, lt-ltb, le-ltb, ltb-true, ltb-false, append-nil, append_assoc, drop_of_length-le, drop-drop}
use borrow.Rule.Slice.PartMut.{put_mid}
use lib.Seq.{set-set}
use Rattle.std.proofs.lemmas.List.{set_comm}
use Rattle.std.proofs.lemmas.List.Edits.{sets, sets-eq}
use Rattle.text.specs.Fields.{shown, column, columns, text, negative}
use Rattle.text.specs.Implementation.Writing.{spaces, pair_put, first_put, Digits, DigitsPut}
use Rattle.text.proofs.Columns.{tens-order, ten-pos, below-eight, next_power, reaches, not-shown, digit_at, minus-at, blank-at, space-at, columns-length}

-- ---- stores
-- one before the others
set_first : (xs l : List ℕ) (i j v : ℕ) → i < j → set (sets l j xs) i v ≡ sets (set l i v) j xs
set_first [] l i j v h = refl
set_first (a ∷ xs) l i j v h = set_first xs (set l j a) i (suc j) v (omega arith) ∙ ap (λ (m : List ℕ). sets m (suc j) xs) (set_comm l j i a v (λ e. omega (arith, e)))

-- one column more, left of those that are there
column-more : (neg : Bool) (n k i j v : ℕ) (out o : List ℕ) → i ≡ suc j → o ≡ sets out i (columns neg n k) → column neg n k ≡ v → set o j v ≡ sets out j (columns neg n (suc k))
unfolding columns
column-more neg n k i j v out o e w c = rw (w, e, c) (set_first (columns neg n k) out j (suc j) v (omega arith))

-- ---- put_digits
-- what the loop has come to: k digits from i on, what is left of n, and that it has a digit more
pub record DigitsSoFar (n : ℕ) (out : List ℕ) (i k rest : ℕ) (out' : List ℕ) : Type 0 where
  pub quotient : rest ≡ n / 10 ^ k
  pub more : 10 ^ k ≤ max n 1
  pub written : (neg : Bool) → out' ≡ sets out i (columns neg n k)

pub no-digit-yet : (n : ℕ) (out : List ℕ) (i k : ℕ) → k ≡ 0 → DigitsSoFar n out i k n out
unfolding columns
no-digit-yet n out i k e =
    let z : 10 ^ k ≡ 1 = rw e in
    record { quotient = rw z (sym (div-one n)); more = omega (arith, z); written = λ neg. rw e }

module _ {n : ℕ} {out : List ℕ} {i k rest : ℕ} {out' : List ℕ} (d : DigitsSoFar n out i k rest out') where
  pub at_most : rest ≤ n
  at_most = rw d.quotient (div-le_self n (10 ^ k))

  -- where two are left, the column after the next has a digit too
  next_more : 9 < rest → 10 ^ suc k ≤ max n 1
  next_more m = omega (arith, reaches n (10 ^ suc k) (omega (arith, next_power n k, d.quotient)))

  pub room-for-one : n < 100000000 → k < 8
  room-for-one h = below-eight n k h d.more

  pub room-for-two : n < 100000000 → 9 < rest → k + 2 ≤ 8
  room-for-two h m = omega (arith, below-eight n (suc k) h (next_more m))

  -- a digit, where another comes before it
  digit-more : (j l v q : ℕ) → 9 < rest → i ≡ suc j → l ≡ suc k → v ≡ 48 + rest % 10 → q ≡ rest / 10 → DigitsSoFar n out j l q (set out' j v)
  digit-more j l v q m e f c s =
      rw f
      record {
        quotient = s ∙ ap (λ (q : ℕ). q / 10) d.quotient ∙ sym (next_power n k);
        more = next_more m;
        written = λ neg. column-more neg n k i j v out out' e (d.written neg) (digit_at neg n k d.more ∙ sym (rw d.quotient at c));
      }

  -- the first digit
  digit-first : (j l v : ℕ) → rest < 10 → i ≡ suc j → l ≡ suc k → v ≡ 48 + rest → (end : ℕ) → j + l ≡ end → l ≤ 8 → DigitsPut n out end j (set out' j v)
  digit-first j l v m e f c end g h =
      let p : 10 ^ suc k ≡ 10 ^ k * 10 = pow-suc 10 k in
      let q : end - j ≡ suc k = omega arith in
      let w : v ≡ 48 + rest % 10 = omega arith in
      record {
        before = omega arith;
        few = omega arith;
        digits = rw q record { some = omega arith; no_more = omega (arith, p, (div-lt_iff_lt-mul {k = 10 ^ k} {x = n} {y = 10} (ten-pos k)).0 (omega (arith, d.quotient))); no-fewer = omega (arith, p, d.more) };
        written = λ neg. rw q (column-more neg n k i j v out out' e (d.written neg) (digit_at neg n k d.more ∙ sym (rw d.quotient at w)));
      }

pub one-first : (out : List ℕ) (end n : ℕ) → n < 10 → first_put out end n ≡ (end - 1, set out (end - 1) (48 + n))
unfolding first_put
one-first out end n h = rw (lt-ltb n 10 h)

pub two-first : (out : List ℕ) (end n : ℕ) → 10 ≤ n → first_put out end n ≡ (end - 2, pair_put out (end - 2) n)
unfolding first_put
two-first out end n h = rw (le-ltb n 10 h)

module _ {n : ℕ} {out : List ℕ} {i k rest : ℕ} {out' : List ℕ} (d : DigitsSoFar n out i k rest out') where
  pub pair-more : (j l : ℕ) → 99 < rest → i ≡ j + 2 → l ≡ k + 2 → DigitsSoFar n out j l (rest / 100) (pair_put out' j (rest - rest / 100 * 100))
  unfolding pair_put
  pair-more j l m e f =
      let last = digit-more d (j + 1) (k + 1) (48 + (rest - rest / 100 * 100) % 10) (rest / 10) (omega arith) (omega arith) (omega arith) (omega arith) refl in
      digit-more last j l (48 + (rest - rest / 100 * 100) / 10) (rest / 100) (omega arith) (omega arith) (omega arith) (omega arith) (omega arith)

  first_done : (end : ℕ) → n < 100000000 → rest < 100 → i + k ≡ end → 8 ≤ end → (b : Bool) → ltb rest 10 ≡ b → DigitsPut n out end (first_put out' i rest).0 (first_put out' i rest).1
  unfolding pair_put
  first_done end h l e m true t =
      let w = ltb-true rest 10 t in
      let room = room-for-one d h in
      rw (one-first out' i rest w) (digit-first d (i - 1) (k + 1) (48 + rest) w (omega (arith, room)) (omega arith) refl end (omega (arith, room)) (omega (arith, room)))
  first_done end h l e m false t =
      let w = ltb-false rest 10 t in
      let room = room-for-two d h (omega (arith, w)) in
      let last = digit-more d (i - 2 + 1) (k + 1) (48 + rest % 10) (rest / 10) (omega (arith, w)) (omega (arith, room)) (omega arith) refl refl in
      rw (two-first out' i rest w) (digit-first last (i - 2) (k + 2) (48 + rest / 10) (omega (arith, l)) (omega (arith, room)) (omega arith) refl end (omega (arith, room)) (omega (arith, room)))

  pub all_done : (r : ℕ) (o : List ℕ) (end : ℕ) → n < 100000000 → rest < 100 → i + k ≡ end → 8 ≤ end → (r, o) ≡ first_put out' i rest → DigitsPut n out end r o
  all_done r o end h l e m w = subst (λ (a : ℕ × List ℕ). DigitsPut n out end a.0 a.1) (sym w) (first_done end h l e m (ltb rest 10) refl)

-- ---- over spaces
spaces-length : (k : ℕ) → length (spaces k) ≡ k
unfolding spaces
spaces-length zero = refl
spaces-length (suc k) = ap suc (spaces-length k)

-- where the columns left of the last k are spaces, only these k are written
over-spaces : (neg : Bool) (n m k : ℕ) → ((j : ℕ) → k ≤ j → j < m + k → column neg n j ≡ 32) → take m (spaces (m + k)) ++ columns neg n k ≡ columns neg n (m + k)
unfolding columns spaces
over-spaces neg n zero k h = let e : 0 + k ≡ k = omega arith in rw e
over-spaces neg n (suc m) k h =
    let e : suc m + k ≡ suc (m + k) = omega arith in
    let i : take m (spaces (m + k)) ++ columns neg n k ≡ columns neg n (m + k) = over-spaces neg n m k (λ j a b. h j a (omega arith)) in
    let c : column neg n (m + k) ≡ 32 = h (m + k) (omega arith) (omega arith) in
    rw (e, c, i)

module _ {n k : ℕ} (d : Digits n k) where
  hidden : (j : ℕ) → k ≤ j → shown n (10 ^ j) ≡ false
  hidden j h =
      not-shown n j (omega (arith, d.some)) (omega (arith, tens-order k j h, d.no_more))

  -- left of the digits are spaces
  plain-left : (j : ℕ) → k ≤ j → column false n j ≡ 32
  plain-left j h = blank-at n j (hidden j h)

  -- or the minus, and spaces left of it
  minus-next : column true n k ≡ 45
  minus-next = minus-at n k (hidden k (omega arith)) (le-leb (10 ^ k / 10) (max n 1) d.no-fewer)

  minus-left : (j : ℕ) → suc k ≤ j → column true n j ≡ 32
  minus-left zero l = absurd (omega arith)
  minus-left (suc j) l =
      let p : 10 ^ suc j / 10 ≡ 10 ^ j = omega (arith, pow-suc 10 j) in
      space-at n (suc j) (hidden (suc j) (omega arith)) (rw p (hidden j (omega arith)))

-- ---- put
-- all columns are there, where those left of the last k are spaces
put-over : (neg : Bool) (n k i : ℕ) (o : List ℕ) → i + k ≡ 8 → ((j : ℕ) → k ≤ j → j < 8 → column neg n j ≡ 32) → o ≡ sets (spaces 8) i (columns neg n k) → o ≡ columns neg n 8
put-over neg n k i o e h w =
    let l = columns-length neg n k in
    let end : i + length (columns neg n k) ≡ 8 = omega arith in
    let none : drop 8 (spaces 8) ≡ [] = drop_of_length-le (spaces 8) {i = 8} (omega (arith, spaces-length 8)) in
    let left : take i (spaces (i + k)) ++ columns neg n k ≡ columns neg n (i + k) = over-spaces neg n i k (λ j a b. h j a (omega arith)) in
    w ∙ sets-eq (columns neg n k) (spaces 8) i (omega (arith, spaces-length 8))
    ∙ ap (λ (m : ℕ). take i (spaces 8) ++ columns neg n k ++ drop m (spaces 8)) end
    ∙ ap (λ (l : List ℕ). take i (spaces 8) ++ columns neg n k ++ l) none
    ∙ append-nil (take i (spaces 8) ++ columns neg n k) ∙ (rw e at left)

module _ {n r : ℕ} {o : List ℕ} (p : DigitsPut n (spaces 8) 8 r o) where
  -- no minus, or no room for one
  pub digits-alone : (neg : Bool) → neg && ltb 0 r ≡ false → o ≡ columns neg n 8
  digits-alone false h = put-over false n (8 - r) r o (omega arith) (λ j a b. plain-left p.digits j a) (p.written false)
  digits-alone true h = let l : r ≤ 0 = ltb-false 0 r h in put-over true n (8 - r) r o (omega arith) (λ j a b. absurd (omega arith)) (p.written true)

  pub minus-put : (neg : Bool) → neg && ltb 0 r ≡ true → set o (r - 1) 45 ≡ columns neg n 8
  minus-put false t = absurd (true≢false (sym t))
  minus-put true t =
      let l : 0 < r = ltb-true 0 r t in
      put-over true n (suc (8 - r)) (r - 1) _ (omega arith) (λ j a b. minus-left p.digits j a)
      (column-more true n (8 - r) r (r - 1) 45 (spaces 8) o (omega arith) (p.written true) (minus-next p.digits))

-- the minus has room left of the digits
pub minus-room : (neg : Bool) (at r : ℕ) → neg && ltb at r ≡ true → at < r
minus-room true at r t = ltb-true at r t
minus-room false at r t = absurd (true≢false (sym t))

-- ---- put_signed
-- eight columns of a slice that became a text
pub text-put : (at k : ℕ) (out columns : List ℕ) (z : ℤ) → columns ≡ text z → k ≡ 8 → at + 8 ≤ length out → put_mid at k out columns ≡ sets out at (text z)
text-put at k out columns z e l h =
    let n : length (text z) ≡ 8 = columns-length (negative z) (nat_abs z) 8 in
    let m : k ≡ length (text z) = l ∙ sym n in
    ap (put_mid at k out) e ∙ ap (λ (xs : List ℕ). take at out ++ (text z ++ xs)) (drop-drop k at out ∙ ap (λ (j : ℕ). drop (at + j) out) m)
    ∙ sym (append_assoc (take at out) (text z) _) ∙ sym (sets-eq (text z) out at (omega arith))

-- ---- the same in a slice of any length that has eight spaces from a place on
-- as many again from the same place
sets-again : (xs ys l : List ℕ) (i : ℕ) → length ys ≡ length xs → sets (sets l i xs) i ys ≡ sets l i ys
sets-again [] [] l i h = refl
sets-again [] (y ∷ ys) l i h = absurd (omega arith)
sets-again (x ∷ xs) [] l i h = absurd (omega arith)
sets-again (x ∷ xs) (y ∷ ys) l i h =
    ap (λ (m : List ℕ). sets m (suc i) ys) (set_first xs (set l i x) i (suc i) y (omega arith) ∙ ap (λ (m : List ℕ). sets m (suc i) xs) (set-set l i x y))
    ∙ sets-again xs ys (set l i y) (suc i) (omega arith)

-- over the last of them
sets_over : (xs ys l : List ℕ) (i m : ℕ) → m + length ys ≡ length xs → sets (sets l i xs) (i + m) ys ≡ sets l i (take m xs ++ ys)
sets_over xs ys l i zero h = let e : i + 0 ≡ i = omega arith in rw e (sets-again xs ys l i (omega arith))
sets_over [] ys l i (suc m) h = absurd (omega arith)
sets_over (x ∷ xs) ys l i (suc m) h =
    let e : i + suc m ≡ suc i + m = omega arith in
    rw e (sets_over xs ys (set l i x) (suc i) m (omega arith))

module _ (out : List ℕ) (at : ℕ) {o : List ℕ} (s : o ≡ sets out at (spaces 8)) where
  over-in : (neg : Bool) (n k i : ℕ) (o' : List ℕ) → at ≤ i → i + k ≡ at + 8 → ((j : ℕ) → k ≤ j → j < 8 → column neg n j ≡ 32) → o' ≡ sets o i (columns neg n k) → o' ≡ sets out at (columns neg n 8)
  over-in neg n k i o' l e h w =
      let m = i - at in
      let f : i ≡ at + m = omega arith in
      let g : 8 ≡ m + k = omega arith in
      w ∙ rw (s, f, g)
      (sets_over (spaces (m + k)) (columns neg n k) out at m (omega (arith, spaces-length (m + k), columns-length neg n k))
      ∙ ap (λ (xs : List ℕ). sets out at xs) (over-spaces neg n m k (λ j a b. h j a (omega arith))))

  module _ (r : ℕ) {n : ℕ} {o' : List ℕ} (p : DigitsPut n o (at + 8) r o') where
    low : at ≤ r
    low = omega arith

    pub digits-alone-in : (neg : Bool) → neg && ltb at r ≡ false → o' ≡ sets out at (columns neg n 8)
    digits-alone-in false h = over-in false n (at + 8 - r) r o' low (omega arith) (λ j a b. plain-left p.digits j a) (p.written false)
    digits-alone-in true h = let l : r ≤ at = ltb-false at r h in over-in true n (at + 8 - r) r o' low (omega arith) (λ j a b. absurd (omega arith)) (p.written true)

    pub minus-put-in : (neg : Bool) → neg && ltb at r ≡ true → set o' (r - 1) 45 ≡ sets out at (columns neg n 8)
    minus-put-in false t = absurd (true≢false (sym t))
    minus-put-in true t =
        let l : at < r = ltb-true at r t in
        over-in true n (suc (at + 8 - r)) (r - 1) _ (omega arith) (omega arith) (λ j a b. minus-left p.digits j a)
        (column-more true n (at + 8 - r) r (r - 1) 45 o o' (omega arith) (p.written true) (minus-next p.digits))
