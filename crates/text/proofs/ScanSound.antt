-- What is read as a number, from the left in one go, are that number's columns. Assumes nothing.
use Rattle.std.proofs.Common.{ℕ, zero, suc, ◌+◌, ◌-◌, ◌*◌, ◌/◌, ◌^◌, max, ◌≤◌, ◌<◌, ◌≡◌, refl, sym, ◌∙◌, List, [], ◌∷◌, length, Bool, true, false, cond, true≢false, Option, Some, None, ℤ, pos, negsuc, neg_ℤ, leb, ltb, eqb, arith, pow-suc, div-one, div-lt_iff_lt-mul, le-leb, eq-eqb, eqb-true, leb-true, ltb-false}
use Rattle.std.proofs.lemmas.Bool.{lt-leb}
use Rattle.text.specs.Fields.{shown, column, columns}
use Rattle.text.specs.Implementation.Scanning.{value_from, zero_only, unsigned, plus, minus, signed, scan}
use Rattle.text.specs.declared.Field.TheVariants.{Number, Wrong}
use Rattle.text.proofs.Columns.{ten-pos, next_power, reaches, not-shown, digit_at, minus-at}

-- ---- digits that are read are the number's columns
module _ (neg : Bool) where
  record Sound (acc v : ℕ) (s : List ℕ) : Type 0 where
    pub quotient : v / 10 ^ length s ≡ acc
    pub columns-are : columns neg v (length s) ≡ s

  one-digit : (acc b v : ℕ) (s : List ℕ) → 48 ≤ b → b ≤ 57 → 1 ≤ acc * 10 + (b - 48) → Sound (acc * 10 + (b - 48)) v s → Sound acc v (b ∷ s)
  unfolding columns
  one-digit acc b v s l h p i =
      let q = i.quotient in
      let r : 10 ^ length s ≤ v = reaches v (10 ^ length s) (omega (arith, q)) in
      let c : column neg v (length s) ≡ b = digit_at neg v (length s) (omega (arith, r)) ∙ omega (arith, q) in
      record { quotient = next_power v (length s) ∙ omega (arith, q); columns-are = rw (c, i.columns-are) }

  value-sound : (s : List ℕ) (acc v : ℕ) → 1 ≤ acc → value_from acc s ≡ Some v → Sound acc v s
  unfolding value_from columns
  value-sound [] acc v p h =
      let e : v ≡ acc = cc in
      rw e record { quotient = div-one acc; columns-are = refl }
  value-sound (b ∷ s) acc v p h = go (ltb b 48) (ltb 57 b) refl refl h (λ g. value-sound s (acc * 10 + (b - 48)) v (omega arith) g)
    where
      go : (x y : Bool) → ltb b 48 ≡ x → ltb 57 b ≡ y → cond x None (cond y None (value_from (acc * 10 + (b - 48)) s)) ≡ Some v
          → (value_from (acc * 10 + (b - 48)) s ≡ Some v → Sound (acc * 10 + (b - 48)) v s) → Sound acc v (b ∷ s)
      go true y e f h i = absurd cc
      go false true e f h i = absurd cc
      go false false e f h i = one-digit acc b v s (ltb-false b 48 e) (ltb-false 57 b f) (omega arith) (i h)

  -- with no zero before them
  record Whole (n k : ℕ) (s : List ℕ) : Type 0 where
    pub columns-are : columns neg n k ≡ s
    pub short : n < 10 ^ k
    pub long : 10 ^ k ≤ 10 * max n 1

  leading : (b : ℕ) (s : List ℕ) (v : ℕ) → (b ≡ 48 → ⊥) → value_from 0 (b ∷ s) ≡ Some v → Whole v (suc (length s)) (b ∷ s)
  unfolding value_from
  leading b s v nz h = go (ltb b 48) (ltb 57 b) refl refl h
    where
      go : (x y : Bool) → ltb b 48 ≡ x → ltb 57 b ≡ y → cond x None (cond y None (value_from (0 * 10 + (b - 48)) s)) ≡ Some v → Whole v (suc (length s)) (b ∷ s)
      go true y e f h = absurd cc
      go false true e f h = absurd cc
      go false false e f h =
          let l = ltb-false b 48 e in
          let m = ltb-false 57 b f in
          let o : 1 ≤ 0 * 10 + (b - 48) = omega (arith, l, nz) in
          let i = value-sound s (0 * 10 + (b - 48)) v o h in
          let j = one-digit 0 b v s l m o i in
          let q = i.quotient in
          let p = pow-suc 10 (length s) in
          let r : 10 ^ length s ≤ v = reaches v (10 ^ length s) (omega (arith, q)) in
          record { columns-are = j.columns-are; short = omega (arith, p, (div-lt_iff_lt-mul {k = 10 ^ length s} {x = v} {y = 10} (ten-pos (length s))).0 (omega (arith, q, m))); long = omega (arith, p, r) }

  alone : (b : ℕ) (s : List ℕ) (v : ℕ) → zero_only s ≡ Some v → b ≡ 48 → Whole v (suc (length s)) (b ∷ s)
  unfolding zero_only columns column
  alone b [] v h e =
      let z : v ≡ 0 = cc in
      let p : 10 ^ 1 ≡ 10 = refl in
      rw z record { columns-are = rw e; short = omega (arith, p); long = omega (arith, p) }
  alone b (c ∷ s) v h e = absurd cc

  unsigned-sound : (b : ℕ) (s : List ℕ) (v : ℕ) → unsigned (b ∷ s) ≡ Some v → Whole v (suc (length s)) (b ∷ s)
  unfolding unsigned
  unsigned-sound b s v h = go (eqb b 48) refl h
    where
      go : (x : Bool) → eqb b 48 ≡ x → cond x (zero_only s) (value_from 0 (b ∷ s)) ≡ Some v → Whole v (suc (length s)) (b ∷ s)
      go true e h = alone b s v h (eqb-true b 48 e)
      go false e h = leading b s v (λ (z : b ≡ 48). absurd (true≢false (sym (sym e ∙ eq-eqb b 48 z)))) h

-- ---- what is read as a number is its columns
pub data Read (limit : ℕ) : ℤ → ℕ → List ℕ → Type 0 where
  plain : {n k : ℕ} {f : List ℕ} → columns false n k ≡ f → n < 10 ^ k → 1 ≤ k → n ≤ limit → Read limit (pos n) k f
  below-zero : {n k : ℕ} {f : List ℕ} → columns true (suc n) k ≡ f → 10 * suc n < 10 ^ k → suc n ≤ limit → Read limit (negsuc n) k f

one-space : (limit : ℕ) (z : ℤ) (k : ℕ) (f : List ℕ) → Read limit z k f → Read limit z (suc k) (32 ∷ f)
unfolding columns column
one-space limit z k f (plain {n = n} c s l h) =
    let d : columns false n (suc k) ≡ 32 ∷ f = rw (not-shown n k l s, c) in
    plain {k = suc k} d (omega (arith, pow-suc 10 k, s)) (omega arith) h
one-space limit z zero f (below-zero {n = n} c s h) = let p : 10 ^ 0 ≡ 1 = refl in absurd (omega (arith, s, p))
one-space limit z (suc k) f (below-zero {n = n} c s h) =
    let p = pow-suc 10 k in
    let a : shown (suc n) (10 ^ suc k) ≡ false = lt-leb (10 ^ suc k) (max (suc n) 1) (omega (arith, s)) in
    let b : shown (suc n) (10 ^ suc k / 10) ≡ false = lt-leb (10 ^ suc k / 10) (max (suc n) 1) (omega (arith, s, p)) in
    let d : columns true (suc n) (suc (suc k)) ≡ 32 ∷ f = rw (a, b, c) in
    below-zero {k = suc (suc k)} d (omega (arith, pow-suc 10 (suc k), s)) h

-- the answers of plus and minus
plus-is : (limit n : ℕ) (z : ℤ) → plus limit (Some n) ≡ Number z → (n ≤ limit) × (pos n ≡ z)
unfolding plus
plus-is limit n z h = go (leb n limit) refl h
  where
    go : (x : Bool) → leb n limit ≡ x → cond x (Number (pos n)) Wrong ≡ Number z → (n ≤ limit) × (pos n ≡ z)
    go true e h = (leb-true n limit e, cc)
    go false e h = absurd cc

minus_is : (limit n : ℕ) (z : ℤ) → minus limit (Some n) ≡ Number z → (n ≡ 0 → ⊥) × (n ≤ limit) × (neg_ℤ (pos n) ≡ z)
unfolding minus
minus_is limit n z h = go (eqb n 0) (leb n limit) refl refl h
  where
    go : (w x : Bool) → eqb n 0 ≡ w → leb n limit ≡ x → cond w Wrong (cond x (Number (neg_ℤ (pos n))) Wrong) ≡ Number z
        → (n ≡ 0 → ⊥) × (n ≤ limit) × (neg_ℤ (pos n) ≡ z)
    go true x d e h = absurd cc
    go false false d e h = absurd cc
    go false true d e h = (λ (q : n ≡ 0). absurd (true≢false (sym (sym d ∙ eq-eqb n 0 q))), leb-true n limit e, cc)

minus-sound : (limit n : ℕ) (b : ℕ) (s : List ℕ) → b ≡ 45 → 1 ≤ length s → Whole true n (length s) s → (n ≡ 0 → ⊥) → n ≤ limit → Read limit (neg_ℤ (pos n)) (suc (length s)) (b ∷ s)
unfolding columns
minus-sound limit zero b s e k w nz l = absurd (nz refl)
minus-sound limit (suc n) b s e k w nz l =
    let p = pow-suc 10 (length s) in
    let c : column true (suc n) (length s) ≡ 45 = minus-at (suc n) (length s) (not-shown (suc n) (length s) k w.short) (le-leb (10 ^ length s / 10) (max (suc n) 1) (omega (arith, w.long))) in
    let d : columns true (suc n) (suc (length s)) ≡ b ∷ s = rw (c, e, w.columns-are) in
    below-zero {k = suc (length s)} d (omega (arith, w.short, p)) l

after_minus : (limit b : ℕ) (s : List ℕ) (z : ℤ) (r : Option ℕ) → b ≡ 45 → unsigned s ≡ r → minus limit r ≡ Number z → Read limit z (suc (length s)) (b ∷ s)
unfolding unsigned minus
after_minus limit b s z None e u h = absurd cc
after_minus limit b [] z (Some n) e u h = absurd cc
after_minus limit b (c ∷ s) z (Some n) e u h =
    let m = minus_is limit n z h in
    rw (← m.2) (minus-sound limit n b (c ∷ s) e (omega arith) (unsigned-sound true c s n u) m.0 m.1)

no_minus-sound : (limit b : ℕ) (s : List ℕ) (z : ℤ) (r : Option ℕ) → unsigned (b ∷ s) ≡ r → plus limit r ≡ Number z → Read limit z (suc (length s)) (b ∷ s)
unfolding plus
no_minus-sound limit b s z None u h = absurd cc
no_minus-sound limit b s z (Some n) u h =
    let m = plus-is limit n z h in
    let w = unsigned-sound false b s n u in
    rw (← m.1) (plain w.columns-are w.short (omega arith) m.0)

signed-sound : (limit b : ℕ) (s : List ℕ) (z : ℤ) → signed limit (b ∷ s) ≡ Number z → Read limit z (suc (length s)) (b ∷ s)
unfolding signed
signed-sound limit b s z h = go (eqb b 45) refl h
  where
    go : (x : Bool) → eqb b 45 ≡ x → cond x (minus limit (unsigned s)) (plus limit (unsigned (b ∷ s))) ≡ Number z → Read limit z (suc (length s)) (b ∷ s)
    go true e h = after_minus limit b s z (unsigned s) (eqb-true b 45 e) refl h
    go false e h = no_minus-sound limit b s z (unsigned (b ∷ s)) refl h

pub scan-sound : (limit : ℕ) (f : List ℕ) (z : ℤ) → scan limit f ≡ Number z → Read limit z (length f) f
unfolding scan
scan-sound limit [] z h = let o : ◌≡◌ {A = ℕ} 0 1 = cc in absurd (omega arith)
scan-sound limit (b ∷ s) z h = go (eqb b 32) refl h (scan-sound limit s z)
  where
    go : (x : Bool) → eqb b 32 ≡ x → cond x (scan limit s) (signed limit (b ∷ s)) ≡ Number z → (scan limit s ≡ Number z → Read limit z (length s) s) → Read limit z (suc (length s)) (b ∷ s)
    go true e h i = rw (eqb-true b 32 e) (one-space limit z (length s) s (i h))
    go false e h i = signed-sound limit b s z h
