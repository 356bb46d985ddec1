-- What is read is what was written: a field that is read as a number is that number's text, and a number's text is read as that number.
use Rattle.std.proofs.Common.{ℕ, zero, suc, ◌+◌, ◌-◌, ◌*◌, ◌/◌, ◌%◌, ◌^◌, max, ◌≤◌, ◌<◌, ◌≡◌, refl, ap, sym, ◌∙◌, List, [], ◌∷◌, Bool, true, false, cond, arith, pow-suc, div-one, div-le_self, lt-ltb, le-ltb, le-leb, eq-eqb, ne_eqb, eqb-true, leb-true, leb-false, ltb-true, ltb-false, leb, ltb, eqb, length, take, drop, ℤ, pos, negsuc, neg_ℤ, nat_abs, ◌⊎◌, inl, inr}
use Rattle.std.proofs.Math.Nat.{div-eq_of_lt}
use Rattle.text.specs.Fields.{shown, column, columns, text, has_text, grow, digits_from, same, blank, number_of, field, field_at}
use Rattle.text.specs.declared.Field.TheVariants.{Blank, Number, Wrong}
use Rattle.text.proofs.Columns.{tens-order, next_power, not-shown, digit_at, minus-at, blank-at, no-digit-at}

-- ---- equality of lists, as a test

same-cons : (x y : ℕ) (b c : Bool) → eqb x y ≡ b → cond b c false ≡ true → (x ≡ y) × (c ≡ true)
same-cons x y true c e h = (eqb-true x y e, h)
same-cons x y false c e h = let z : false ≡ true = h in absurd (no_way z)
  where
    no_way : false ≡ true → ⊥
    no_way z = let o : ◌≡◌ {A = ℕ} 0 1 = cc in omega arith

pub same-sound : (xs ys : List ℕ) → same xs ys ≡ true → xs ≡ ys
unfolding same
same-sound [] [] h = refl
same-sound [] (y ∷ ys) h = cc
same-sound (x ∷ xs) [] h = cc
same-sound (x ∷ xs) (y ∷ ys) h =
    let p = same-cons x y (eqb x y) (same xs ys) refl h in
    let q : xs ≡ ys = same-sound xs ys p.1 in
    let r : x ≡ y = p.0 in
    cc

pub same_refl : (xs : List ℕ) → same xs xs ≡ true
unfolding same
same_refl [] = refl
same_refl (x ∷ xs) = simp (eq-eqb x x refl) (same_refl xs)

-- ---- a number's text has its digits

grow-digit : (acc x : ℕ) → acc ≡ x / 10 → x < 100000000 → grow acc (48 + x % 10) ≡ x
unfolding grow
grow-digit acc x e h =
    simp (le-ltb 9999999 acc (omega arith), le-ltb (48 + x % 10) 48 (omega arith), le-ltb 57 (48 + x % 10) (omega arith)) (omega arith)

cond_same : (t : Bool) (x : ℕ) → cond t x x ≡ x
cond_same true x = refl
cond_same false x = refl

grow-other : (acc b : ℕ) → b < 48 → grow acc b ≡ acc
unfolding grow
grow-other acc b h = simp (lt-ltb b 48 h) (cond_same (ltb 9999999 acc) acc)

-- the digits so far, and one column more
grow-column : (neg : Bool) (n k : ℕ) → n < 100000000 → grow (n / 10 ^ suc k) (column neg n k) ≡ n / 10 ^ k
grow-column neg n k h = go (shown n (10 ^ k)) refl
  where
    small : n / 10 ^ k < 100000000
    small = omega (arith, div-le_self n (10 ^ k))

    go : (b : Bool) → shown n (10 ^ k) ≡ b → grow (n / 10 ^ suc k) (column neg n k) ≡ n / 10 ^ k
    go true e = rw (digit_at neg n k (leb-true (10 ^ k) (max n 1) e)) (grow-digit (n / 10 ^ suc k) (n / 10 ^ k) (next_power n k) small)
    go false e =
        let l : max n 1 < 10 ^ k = leb-false (10 ^ k) (max n 1) e in
        let z : n / 10 ^ k ≡ 0 = div-eq_of_lt (omega arith) in
        grow-other (n / 10 ^ suc k) (column neg n k) (no-digit-at neg n k e) ∙ omega (arith, next_power n k, z)

text-digits : (neg : Bool) (n k : ℕ) → n < 100000000 → digits_from (n / 10 ^ k) (columns neg n k) ≡ n
unfolding digits_from columns
text-digits neg n zero h = div-one n
text-digits neg n (suc k) h = ap (λ (a : ℕ). digits_from a (columns neg n k)) (grow-column neg n k h) ∙ text-digits neg n k h

pub digits-of-text : (neg : Bool) (n : ℕ) → n < 100000000 → digits_from 0 (columns neg n 8) ≡ n
digits-of-text neg n h =
    let z : n / 10 ^ 8 ≡ 0 = div-eq_of_lt h in
    ap (λ (a : ℕ). digits_from a (columns neg n 8)) (sym z) ∙ text-digits neg n 8 h

-- ---- a number's text is read as the number

last-digit : (neg : Bool) (n : ℕ) → column neg n 0 ≡ 48 + n % 10
last-digit neg n = digit_at neg n 0 (omega arith) ∙ simp div-one

blank-cons : (x : ℕ) (xs : List ℕ) → blank xs ≡ false → blank (x ∷ xs) ≡ false
unfolding blank
blank-cons x xs h = rw h (both (eqb x 32))
  where
    both : (b : Bool) → cond b false false ≡ false
    both true = refl
    both false = refl

text-not-blank : (neg : Bool) (n k : ℕ) → blank (columns neg n (suc k)) ≡ false
unfolding blank columns
text-not-blank neg n zero = let h : column neg n 0 ≡ 32 → ⊥ = λ e. omega (arith, last-digit neg n) in simp (ne_eqb (column neg n 0) 32 h)
text-not-blank neg n (suc k) = blank-cons (column neg n (suc k)) (columns neg n (suc k)) (text-not-blank neg n k)

-- with room for a sign, a number's text is not its negative's
differ-cons : (x y : ℕ) (xs ys : List ℕ) → same xs ys ≡ false → same (x ∷ xs) (y ∷ ys) ≡ false
unfolding same
differ-cons x y xs ys h = rw h (both (eqb x y))
  where
    both : (b : Bool) → cond b false false ≡ false
    both true = refl
    both false = refl

differ-here : (x y : ℕ) (xs ys : List ℕ) → (x ≡ y → ⊥) → same (x ∷ xs) (y ∷ ys) ≡ false
unfolding same
differ-here x y xs ys h = simp (ne_eqb x y h)

sign-by : (n k : ℕ) (b : Bool) → shown n (10 ^ k) ≡ false → shown n (10 ^ k / 10) ≡ b → (xs ys : List ℕ) → (b ≡ false → same xs ys ≡ false)
    → same (column true n k ∷ xs) (column false n k ∷ ys) ≡ false
sign-by n k true e s xs ys h =
    differ-here (column true n k) (column false n k) xs ys
    (λ q. let z : ◌≡◌ {A = ℕ} 45 32 = sym (minus-at n k e s) ∙ q ∙ blank-at n k e in omega arith)
sign-by n k false e s xs ys h = differ-cons (column true n k) (column false n k) xs ys (h refl)

sign-differs : (n k : ℕ) → 1 ≤ n → n < 10 ^ k → same (columns true n (suc k)) (columns false n (suc k)) ≡ false
unfolding columns
sign-differs n zero h l = absurd (omega arith)
sign-differs n (suc k) h l =
    let p : 10 ^ suc k ≡ 10 ^ k * 10 = pow-suc 10 k in
    sign-by n (suc k) (shown n (10 ^ suc k / 10)) (not-shown n (suc k) (omega arith) l) refl (columns true n (suc k)) (columns false n (suc k))
    (λ s. sign-differs n k h (omega (arith, p, leb-false (10 ^ suc k / 10) (max n 1) s)))

-- ---- what is read as a number is its text, and a number's text is read as the number
read_by : (a b c d : Bool) (p q z : ℤ) → cond a Blank (cond b Wrong (cond c (Number p) (cond d (Number q) Wrong))) ≡ Number z
    → (b ≡ false) × (((c ≡ true) × (p ≡ z)) ⊎ ((c ≡ false) × (d ≡ true) × (q ≡ z)))
read_by true b c d p q z h = let o : ◌≡◌ {A = ℕ} 0 1 = cc in absurd (omega arith)
read_by false true c d p q z h = let o : ◌≡◌ {A = ℕ} 0 1 = cc in absurd (omega arith)
read_by false false true d p q z h = (refl, inl (refl, cc))
read_by false false false true p q z h = (refl, inr (refl, refl, cc))
read_by false false false false p q z h = let o : ◌≡◌ {A = ℕ} 0 1 = cc in absurd (omega arith)

abs-opposite : (n : ℕ) → nat_abs (neg_ℤ (pos n)) ≡ n
abs-opposite zero = refl
abs-opposite (suc n) = refl

pub read-is-text : (limit : ℕ) (f : List ℕ) (z : ℤ) → field limit f ≡ Number z → (f ≡ text z) × (nat_abs z ≤ limit)
unfolding field number_of
read-is-text limit f z h = go (read_by (blank f) (ltb limit n) (same f (text (pos n))) (same f (text (neg_ℤ (pos n)))) (pos n) (neg_ℤ (pos n)) z h)
  where
    n : ℕ
    n = digits_from 0 f

    of : (y : ℤ) → same f (text y) ≡ true → nat_abs y ≡ n → ltb limit n ≡ false → y ≡ z → (f ≡ text z) × (nat_abs z ≤ limit)
    of y s a b e = let l : n ≤ limit = ltb-false limit n b in rw (← e) (same-sound f (text y) s, omega arith)

    go : (ltb limit n ≡ false) × (((same f (text (pos n)) ≡ true) × (pos n ≡ z)) ⊎ ((same f (text (pos n)) ≡ false) × (same f (text (neg_ℤ (pos n))) ≡ true) × (neg_ℤ (pos n) ≡ z))) → (f ≡ text z) × (nat_abs z ≤ limit)
    go (b, inl (s, e)) = of (pos n) s refl b e
    go (b, inr (d, s, e)) = of (neg_ℤ (pos n)) s (abs-opposite n) b e

-- of eight digits there is no room for a minus, and the two signs look alike
signs-alike : (n k : ℕ) → 10000000 ≤ n → k ≤ 8 → columns true n k ≡ columns false n k
unfolding columns column
signs-alike n zero h l = refl
signs-alike n (suc k) h l =
    let p : 10 ^ k ≤ 10 ^ 7 = tens-order k 7 (omega arith) in
    let q : 10 ^ 7 ≡ 10000000 = refl in
    rw (le-leb (10 ^ k) (max n 1) (omega arith), signs-alike n k h (omega arith))

grow-small : (acc b : ℕ) → acc < 100000000 → grow acc b < 100000000
unfolding grow
grow-small acc b h = go (ltb 9999999 acc) (ltb b 48) (ltb 57 b) (ltb-false 9999999 acc) (ltb-false 57 b)
  where
    go : (x y z : Bool) → (x ≡ false → acc ≤ 9999999) → (z ≡ false → b ≤ 57) → cond x acc (cond y acc (cond z acc (acc * 10 + (b - 48)))) < 100000000
    go true y z f g = h
    go false true z f g = h
    go false false true f g = h
    go false false false f g = let u : acc ≤ 9999999 = f refl in let v : b ≤ 57 = g refl in omega arith

digits-small : (acc : ℕ) (f : List ℕ) → acc < 100000000 → digits_from acc f < 100000000
unfolding digits_from
digits-small acc [] h = h
digits-small acc (b ∷ f) h = digits-small (grow acc b) f (grow-small acc b h)

pub read-has-text : (limit : ℕ) (f : List ℕ) (z : ℤ) → field limit f ≡ Number z → has_text z ≡ true
unfolding field number_of has_text
read-has-text limit f z h = go (read_by (blank f) (ltb limit n) (same f (text (pos n))) (same f (text (neg_ℤ (pos n)))) (pos n) (neg_ℤ (pos n)) z h)
  where
    n : ℕ
    n = digits_from 0 f

    small : n < 100000000
    small = digits-small 0 f (omega arith)

    minus : (m : ℕ) → n ≡ m → same f (text (pos m)) ≡ false → same f (text (neg_ℤ (pos m))) ≡ true → has_text (neg_ℤ (pos m)) ≡ true
    minus zero e d s = refl
    minus (suc m) e d s = short (ltb m 9999999) refl
      where
        short : (b : Bool) → ltb m 9999999 ≡ b → b ≡ true
        short true t = refl
        short false t =
            let l : 9999999 ≤ m = ltb-false m 9999999 t in
            let a : f ≡ columns false (suc m) 8 = same-sound f (columns true (suc m) 8) s ∙ signs-alike (suc m) 8 (omega arith) (omega arith) in
            sym d ∙ (rw (← a) (same_refl f))

    go : (ltb limit n ≡ false) × (((same f (text (pos n)) ≡ true) × (pos n ≡ z)) ⊎ ((same f (text (pos n)) ≡ false) × (same f (text (neg_ℤ (pos n))) ≡ true) × (neg_ℤ (pos n) ≡ z))) → has_text z ≡ true
    go (b, inl (s, e)) = rw (← e) (lt-ltb n 100000000 small)
    go (b, inr (d, s, e)) = rw (← e) (minus n refl d s)

pub text-is-read : (limit : ℕ) (z : ℤ) → has_text z ≡ true → nat_abs z ≤ limit → field limit (text z) ≡ Number z
unfolding field number_of has_text
text-is-read limit (pos n) t h =
    let l : n < 100000000 = ltb-true n 100000000 t in
    simp (text-not-blank false n 7, digits-of-text false n l, le-ltb limit n h, same_refl (columns false n 8))
text-is-read limit (negsuc n) t h =
    let l : n < 9999999 = ltb-true n 9999999 t in
    simp (text-not-blank true (suc n) 7, digits-of-text true (suc n) (omega arith), le-ltb limit (suc n) h, sign-differs (suc n) 7 (omega arith) (omega arith), same_refl (columns true (suc n) 8))

-- ---- at a place of a longer text
pub at-is-text : (limit : ℕ) (s : List ℕ) (at : ℕ) (z : ℤ) → field_at limit s at ≡ Number z → (take 8 (drop at s) ≡ text z) × (nat_abs z ≤ limit)
unfolding field_at
at-is-text limit s at z = go (leb (at + 8) (length s))
  where
    go : (b : Bool) → cond b (field limit (take 8 (drop at s))) Wrong ≡ Number z → (take 8 (drop at s) ≡ text z) × (nat_abs z ≤ limit)
    go true e = read-is-text limit (take 8 (drop at s)) z e
    go false e = let o : ◌≡◌ {A = ℕ} 0 1 = cc in absurd (omega arith)
