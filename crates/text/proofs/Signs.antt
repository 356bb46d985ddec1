-- Signed numbers of 32 bits: their magnitudes, and which of them have a text. Assumes nothing.
use Rattle.std.proofs.Common.{int_lt, ℕ, zero, suc, ◌<◌, zero-le, ◌≡◌, refl, ap, sym, ◌∙◌, subst, Bool, true, false, cond, ◌&&◌, ltb, lit<, arith, ℤ, pos, negsuc, neg_ℤ, nat_abs, ◌-ℤ◌, Less, Equal, Greater, is_le, int_cmp, le-ltb, lt-ltb, ltb-true, ltb-false, w32, SFits, to_z, of_z, to_z-of_z}
use Rattle.std.proofs.Math.IntN.{+ℤ_idl}
use Rattle.text.specs.Fields.{negative, has_text}

neg-fits : (z : ℤ) → nat_abs z < 100000000 → SFits w32 (neg_ℤ z)
neg-fits (pos zero) h = record { sfits = lit< tt }
neg-fits (pos (suc m)) h = record { sfits = omega arith }
neg-fits (negsuc m) h = record { sfits = omega arith }

pub sign : (z : ℤ) → SFits w32 z → nat_abs z < 100000000 → int_lt (to_z w32 (of_z w32 z)) (pos 0) ≡ negative z
sign z f _ = ap (λ (y : ℤ). int_lt y (pos 0)) (to_z-of_z f) ∙ by z
  where
    by : (y : ℤ) → int_lt y (pos 0) ≡ negative y
    by (pos n) = le-ltb n 0 zero-le
    by (negsuc n) = refl

-- ---- a count below 10 ^ 8 and its opposite
module _ (n : ℕ) (h : n < 100000000) where
  pub small-value : to_z w32 n ≡ pos n
  small-value = to_z-of_z {w = w32} {z = pos n} (record { sfits = omega arith })

  opposite-is : pos 0 -ℤ to_z w32 n ≡ neg_ℤ (pos n)
  opposite-is = ap (λ (y : ℤ). pos 0 -ℤ y) small-value ∙ +ℤ_idl (neg_ℤ (pos n))

  pub opposite-fits : SFits w32 (pos 0 -ℤ to_z w32 n)
  opposite-fits = subst (λ (y : ℤ). SFits w32 y) (sym opposite-is) (neg-fits (pos n) h)

  pub opposite-value : to_z w32 (of_z w32 (pos 0 -ℤ to_z w32 n)) ≡ neg_ℤ (pos n)
  opposite-value = to_z-of_z opposite-fits ∙ opposite-is

-- ---- which numbers have a text
at_most : (a n : ℕ) → is_le (cond (ltb n a) Less (cond (ltb a n) Greater Equal)) ≡ ltb n (suc a)
at_most a n = by (ltb n a) (ltb a n) refl refl
  where
    by : (x y : Bool) → ltb n a ≡ x → ltb a n ≡ y → is_le (cond x Less (cond y Greater Equal)) ≡ ltb n (suc a)
    by true y e f = sym (lt-ltb n (suc a) (omega (arith, ltb-true n a e)))
    by false true e f = sym (le-ltb n (suc a) (omega (arith, ltb-true a n f)))
    by false false e f = sym (lt-ltb n (suc a) (omega (arith, ltb-false a n f)))

and-true : (b : Bool) → (b && true) ≡ b
and-true true = refl
and-true false = refl

pub within-columns : (z : ℤ) → (is_le (int_cmp (negsuc 9999998) z) && is_le (int_cmp z (pos 99999999))) ≡ has_text z
unfolding has_text
within-columns (pos n) = at_most 99999999 n
within-columns (negsuc n) = and-true _ ∙ at_most 9999998 n

pub has-text-small : (z : ℤ) → has_text z ≡ true → nat_abs z < 100000000
unfolding has_text
has-text-small (pos n) h = ltb-true n 100000000 h
has-text-small (negsuc n) h = omega (arith, ltb-true n 9999999 h)

-- what the machine reads back is what was kept
abbrev pub Same : ℤ → Type 0
Same z = to_z w32 (of_z w32 z) ≡ z
