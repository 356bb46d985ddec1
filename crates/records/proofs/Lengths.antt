-- A length of n ticks is read as exactly n / 32 points (RULES 6.6). Assumes nothing.
use Rattle.std.proofs.Common.{ℕ, ◌+◌, ◌*◌, ◌≤◌, ◌≡◌, refl, ap, sym, ◌∙◌, List, arith, ℤ, pos, negsuc, nat_abs, T, ltb-true, Float, true, false, true≢false, w32, w64, Fits, SFits}
use Rattle.std.specs.Float.Ieee.{binary32, of_bits, of_int, in_float, div, mul, in_signed, to_signed}
use Rattle.std.specs.Int.Signed.{lt_z, non_neg}
use Rattle.emath.specs.Steps.{tick, two}
use Rattle.emath.proofs.Whole.{within-unsigned_abs}
use Rattle.emath.proofs.Exact.{Small}
use Rattle.emath.proofs.Casts.{float32, steps-to-points, points-to-steps}
use Rattle.text.proofs.RoundTrip.{at-is-text}
use Rattle.text.specs.Fields.{field_at}
use Rattle.text.specs.declared.Field.{Field}
use Rattle.text.specs.declared.Field.TheVariants.{Number}
use Rattle.records.specs.declared.SizeUnit.{SizeUnit}
use Rattle.records.specs.Parts.{points, measured, size_in, natural}

small : (z : ℤ) → nat_abs z ≤ 2097152 → Small z
small z h = within-unsigned_abs z (omega arith)

-- the code's constant is 2 ^ tick
thirty_two : of_bits binary32 1107296256 ≡ two tick
unfolding of_bits
thirty_two = refl

pub casts : (z : ℤ) → nat_abs z ≤ 2097152 → T (in_float binary32 z)
casts z h = float32 z (small z h)

pub divided : (z : ℤ) → nat_abs z ≤ 2097152 → div binary32 (of_int binary32 z) (of_bits binary32 1107296256) ≡ points z
unfolding points
divided z h = ap (λ (y : Float). div binary32 (of_int binary32 z) y) thirty_two ∙ steps-to-points tick (omega arith) z (small z h)

-- a length in points, times 32, is the number of ticks that the field holds
pub back-in-ticks : (z : ℤ) → nat_abs z ≤ 2097152 → T (in_signed binary32 31 (mul binary32 (points z) (two tick))) × (to_signed 31 (mul binary32 (points z) (two tick)) ≡ z)
unfolding points
back-in-ticks z h = points-to-steps tick (omega arith) z (small z h)

-- ---- what size answers
module _ (s : List ℕ) (i : ℕ) (f : Field) (e : f ≡ field_at 2097152 s (1 + 8 * i)) where
  pub few-ticks : (z : ℤ) → f ≡ Number z → nat_abs z ≤ 2097152
  few-ticks z n = (at-is-text 2097152 s (1 + 8 * i) z (sym e ∙ n)).1

  pub size_is : (u : SizeUnit) (g : Field) → f ≡ g → measured u g ≡ size_in u s i
  unfolding size_in
  size_is u g h = ap (λ (x : Field). measured u x) (sym h ∙ e)

-- ---- what natural answers
pub not-natural : (z : ℤ) → lt_z z (pos 0) ≡ true → 0 ≡ natural z
unfolding natural
not-natural (pos n) h = absurd (omega (arith, ltb-true n 0 h))
not-natural (negsuc n) h = refl

pub natural_casts : (z : ℤ) → SFits w32 z → lt_z z (pos 0) ≡ false → T (non_neg z) × Fits w64 (nat_abs z)
natural_casts (pos n) f h = (tt, record { fits = omega (arith, f.sfits) })
natural_casts (negsuc n) f h = absurd (true≢false h)

pub natural-is : (z : ℤ) → lt_z z (pos 0) ≡ false → nat_abs z ≡ natural z
unfolding natural
natural-is (pos n) h = refl
natural-is (negsuc n) h = absurd (true≢false h)
