-- Reading from the left in one go is reading against the number's text. Assumes nothing.
use Rattle.std.proofs.Common.{ℕ, zero, suc, ◌+◌, ◌-◌, ◌*◌, ◌/◌, ◌%◌, ◌^◌, max, ◌≤◌, ◌<◌, ◌≡◌, refl, ap, sym, ◌∙◌, List, [], ◌∷◌, length, Bool, true, false, cond, true≢false, Option, Some, None, ℤ, pos, negsuc, neg_ℤ, nat_abs, leb, ltb, eqb, arith, pow-suc, div-one, div-lt_iff_lt-mul, le-div_iff_mul-le, lt-ltb, le-ltb, le-leb, eq-eqb, ne_eqb, leb-true, leb-false, ltb-true}
use Rattle.std.proofs.Math.Nat.{div-eq_of_lt}
use Rattle.text.specs.Fields.{shown, column, columns, text, has_text, digits_from, same, blank, number_of, field}
use Rattle.text.specs.Implementation.Scanning.{value_from, zero_only, unsigned, plus, minus, signed, scan}
use Rattle.text.specs.declared.Field.{Field}
use Rattle.text.specs.declared.Field.TheVariants.{Blank, Number, Wrong}
use Rattle.text.proofs.Columns.{ten-pos, ten-at-least, next_power, not-shown, digit_at, minus-at, blank-at, space-at}
use Rattle.text.proofs.RoundTrip.{read-is-text, read-has-text, text-is-read}
use Rattle.text.proofs.ScanSound.{Read, plain, below-zero, scan-sound}

-- ---- a number's columns are read as the number
value_of : (neg : Bool) (n k : ℕ) → 10 ^ k ≤ 10 * max n 1 → value_from (n / 10 ^ k) (columns neg n k) ≡ Some n
unfolding value_from columns
value_of neg n zero h = ap Some (div-one n)
value_of neg n (suc k) h =
    let p = pow-suc 10 k in
    let c = digit_at neg n k (omega (arith, h, p)) in
    let e : n / 10 ^ suc k * 10 + (48 + n / 10 ^ k % 10 - 48) ≡ n / 10 ^ k = omega (arith, next_power n k) in
    rw (c, le-ltb (48 + n / 10 ^ k % 10) 48 (omega arith), le-ltb 57 (48 + n / 10 ^ k % 10) (omega arith), e) (value_of neg n k (omega (arith, h, p)))

unsigned_of_lem : (neg : Bool) (n k : ℕ) → 10 ^ k ≤ max n 1 → n < 10 ^ suc k → unsigned (columns neg n (suc k)) ≡ Some n
unfolding unsigned columns
unsigned_of_lem neg zero zero h s = unfold zero_only column in refl
unsigned_of_lem neg zero (suc k) h s = absurd (omega (arith, h, ten-at-least (suc k) (omega arith)))
unsigned_of_lem neg (suc m) k h s =
    let n = suc m in
    let p = pow-suc 10 k in
    let c = digit_at neg n k h in
    let q : 1 ≤ n / 10 ^ k = (le-div_iff_mul-le {k = 10 ^ k} {x = 1} {y = n} (ten-pos k)).1 (omega (arith, h)) in
    let r : n / 10 ^ k < 10 = (div-lt_iff_lt-mul {k = 10 ^ k} {x = n} {y = 10} (ten-pos k)).1 (omega (arith, s, p)) in
    let z : n / 10 ^ suc k ≡ 0 = div-eq_of_lt s in
    let d : column neg n k ≡ 48 → ⊥ = λ e. omega (arith, c, e, q, r) in
    let v = value_of neg n (suc k) (omega (arith, h, p)) in
    rw (ne_eqb (column neg n k) 48 d) (ap (λ (a : ℕ). value_from a (column neg n k ∷ columns neg n k)) (sym z) ∙ v)

plus-of : (limit n : ℕ) → n ≤ limit → plus limit (Some n) ≡ Number (pos n)
unfolding plus
plus-of limit n l = rw (le-leb n limit l)

minus-of : (limit n : ℕ) → 1 ≤ n → n ≤ limit → minus limit (Some n) ≡ Number (neg_ℤ (pos n))
unfolding minus
minus-of limit n o l = rw (ne_eqb n 0 (λ (e : n ≡ 0). omega (arith, e, o)), le-leb n limit l)

module _ (limit n : ℕ) (l : n ≤ limit) where
  first-digit : (k : ℕ) → 10 ^ k ≤ max n 1 → n < 10 ^ suc k → scan limit (columns false n (suc k)) ≡ Number (pos n)
  unfolding scan signed columns
  first-digit k h t =
      let c = digit_at false n k h in
      let a : column false n k ≡ 32 → ⊥ = λ e. omega (arith, c, e) in
      let b : column false n k ≡ 45 → ⊥ = λ e. omega (arith, c, e) in
      rw (ne_eqb (column false n k) 32 a, ne_eqb (column false n k) 45 b) (ap (λ (r : Option ℕ). plus limit r) (unsigned_of_lem false n k h t) ∙ plus-of limit n l)

  more-space : (neg : Bool) (k : ℕ) → column neg n k ≡ 32 → scan limit (columns neg n (suc k)) ≡ scan limit (columns neg n k)
  unfolding scan columns
  more-space neg k e = rw e

  plain-read : (k : ℕ) → 1 ≤ k → n < 10 ^ k → scan limit (columns false n k) ≡ Number (pos n)
  plain-read zero h t = absurd (omega arith)
  plain-read (suc k) h t = go (shown n (10 ^ k)) refl (plain-read k)
    where
      go : (b : Bool) → shown n (10 ^ k) ≡ b → (1 ≤ k → n < 10 ^ k → scan limit (columns false n k) ≡ Number (pos n)) → scan limit (columns false n (suc k)) ≡ Number (pos n)
      go true e i = first-digit k (leb-true (10 ^ k) (max n 1) e) t
      go false e i =
          let m = leb-false (10 ^ k) (max n 1) e in
          more-space false k (blank-at n k e) ∙ i (some-power k m) (omega (arith, m))
        where
          some-power : (k : ℕ) → max n 1 < 10 ^ k → 1 ≤ k
          some-power zero m = let p : 10 ^ 0 ≡ 1 = refl in absurd (omega (arith, m, p))
          some-power (suc k) m = omega arith

  module _ (o : 1 ≤ n) where
    minus-first : (k : ℕ) → column true n (suc k) ≡ 45 → 10 ^ k ≤ max n 1 → n < 10 ^ suc k → scan limit (columns true n (suc (suc k))) ≡ Number (neg_ℤ (pos n))
    unfolding scan signed columns
    minus-first k c h t =
        let a : column true n (suc k) ≡ 32 → ⊥ = λ e. omega (arith, c, e) in
        rw (ne_eqb (column true n (suc k)) 32 a, eq-eqb (column true n (suc k)) 45 c) (ap (λ (r : Option ℕ). minus limit r) (unsigned_of_lem true n k h t) ∙ minus-of limit n o l)

    minus-read : (k : ℕ) → 10 * n < 10 ^ k → scan limit (columns true n k) ≡ Number (neg_ℤ (pos n))
    minus-read zero t = let p : 10 ^ 0 ≡ 1 = refl in absurd (omega (arith, t, p, o))
    minus-read (suc zero) t = let p : 10 ^ 1 ≡ 10 = refl in absurd (omega (arith, t, p, o))
    minus-read (suc (suc k)) t = go (shown n (10 ^ suc k / 10)) refl (minus-read (suc k))
      where
        hidden : shown n (10 ^ suc k) ≡ false
        hidden = not-shown n (suc k) (omega arith) (omega (arith, t, pow-suc 10 (suc k)))

        go : (b : Bool) → shown n (10 ^ suc k / 10) ≡ b → (10 * n < 10 ^ suc k → scan limit (columns true n (suc k)) ≡ Number (neg_ℤ (pos n))) → scan limit (columns true n (suc (suc k))) ≡ Number (neg_ℤ (pos n))
        go true e i =
            let p = pow-suc 10 k in
            minus-first k (minus-at n (suc k) hidden e) (omega (arith, p, leb-true (10 ^ suc k / 10) (max n 1) e)) (omega (arith, t, pow-suc 10 (suc k)))
        go false e i = more-space true (suc k) (space-at n (suc k) hidden e) ∙ i (omega (arith, pow-suc 10 k, leb-false (10 ^ suc k / 10) (max n 1) e))

-- ---- blanks
abbrev NotBlank : Field → Type 0
NotBlank f = f ≡ Blank → ⊥

either : (b : Bool) (x y : Field) → NotBlank x → NotBlank y → NotBlank (cond b x y)
either true x y p q = p
either false x y p q = q

no-wrong : NotBlank Wrong
no-wrong e = cc

no_number : (z : ℤ) → NotBlank (Number z)
no_number z e = cc

plus-given : (limit : ℕ) (r : Option ℕ) → NotBlank (plus limit r)
unfolding plus
plus-given limit None = no-wrong
plus-given limit (Some n) = either (leb n limit) _ _ (no_number _) no-wrong

minus-given : (limit : ℕ) (r : Option ℕ) → NotBlank (minus limit r)
unfolding minus
minus-given limit None = no-wrong
minus-given limit (Some n) = either (eqb n 0) _ _ no-wrong (either (leb n limit) _ _ (no_number _) no-wrong)

no-blank : (limit : ℕ) (f : List ℕ) → NotBlank (signed limit f)
unfolding signed
no-blank limit [] = no-wrong
no-blank limit (b ∷ s) = either (eqb b 45) _ _ (minus-given limit (unsigned s)) (plus-given limit (unsigned (b ∷ s)))

scan-blank : (limit : ℕ) (f : List ℕ) → scan limit f ≡ Blank → blank f ≡ true
unfolding scan blank
scan-blank limit [] h = refl
scan-blank limit (b ∷ s) h = go (eqb b 32) h (scan-blank limit s)
  where
    go : (x : Bool) → cond x (scan limit s) (signed limit (b ∷ s)) ≡ Blank → (scan limit s ≡ Blank → blank s ≡ true) → cond x (blank s) false ≡ true
    go true h i = i h
    go false h i = absurd (no-blank limit (b ∷ s) h)

blank-scan : (limit : ℕ) (f : List ℕ) → blank f ≡ true → scan limit f ≡ Blank
unfolding scan blank
blank-scan limit [] h = refl
blank-scan limit (b ∷ s) h = go (eqb b 32) h (blank-scan limit s)
  where
    go : (x : Bool) → cond x (blank s) false ≡ true → (blank s ≡ true → scan limit s ≡ Blank) → cond x (scan limit s) (signed limit (b ∷ s)) ≡ Blank
    go true h i = i h
    go false h i = absurd (true≢false (sym h))

-- ---- so it is the field
eight-digits : 10 ^ 8 ≡ 100000000
eight-digits = refl

read-field : (limit : ℕ) (z : ℤ) (f : List ℕ) → Read limit z 8 f → field limit f ≡ Number z
unfolding has_text
read-field limit z f (plain {n = n} c s k l) = rw (← c) (text-is-read limit (pos n) (lt-ltb n 100000000 (omega (arith, s, eight-digits))) l)
read-field limit z f (below-zero {n = n} c s l) = rw (← c) (text-is-read limit (negsuc n) (lt-ltb n 9999999 (omega (arith, s, eight-digits))) l)

text-scanned : (limit : ℕ) (z : ℤ) → has_text z ≡ true → nat_abs z ≤ limit → scan limit (text z) ≡ Number z
unfolding has_text
text-scanned limit (pos n) t l = let h = ltb-true n 100000000 t in plain-read limit n l 8 (omega arith) (omega (arith, h, eight-digits))
text-scanned limit (negsuc n) t l = let h = ltb-true n 9999999 t in minus-read limit (suc n) l (omega arith) 8 (omega (arith, h, eight-digits))

field-blank : (limit : ℕ) (f : List ℕ) → blank f ≡ true → field limit f ≡ Blank
unfolding field
field-blank limit f h = rw h

number-given : (limit n : ℕ) (f : List ℕ) → NotBlank (number_of limit n f)
unfolding number_of
number-given limit n f =
    either (ltb limit n) _ _ no-wrong (either (same f (text (pos n))) _ _ (no_number _) (either (same f (text (neg_ℤ (pos n)))) _ _ (no_number _) no-wrong))

blank-field : (limit : ℕ) (f : List ℕ) → field limit f ≡ Blank → blank f ≡ true
unfolding field
blank-field limit f h = go (blank f) h
  where
    go : (b : Bool) → cond b Blank (number_of limit (digits_from 0 f) f) ≡ Blank → b ≡ true
    go true h = refl
    go false h = absurd (number-given limit (digits_from 0 f) f h)

pub scanned : (limit : ℕ) (f : List ℕ) → length f ≡ 8 → scan limit f ≡ field limit f
scanned limit f e = go (scan limit f) refl (field limit f) refl
  where
    go : (r : Field) → scan limit f ≡ r → (q : Field) → field limit f ≡ q → r ≡ q
    go Blank h q g = sym (field-blank limit f (scan-blank limit f h)) ∙ g
    go (Number z) h q g = sym (read-field limit z f (rw e at (scan-sound limit f z h))) ∙ g
    go Wrong h Wrong g = refl
    go Wrong h Blank g = sym h ∙ blank-scan limit f (blank-field limit f g)
    go Wrong h (Number z) g =
        let r = read-is-text limit f z g in
        sym h ∙ ap (λ (x : List ℕ). scan limit x) r.0 ∙ text-scanned limit z (read-has-text limit f z g) r.1
