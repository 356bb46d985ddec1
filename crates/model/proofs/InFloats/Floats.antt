-- f32 numbers are such numbers, at every step of 1 to 1/64 point: the engine on them, with the operations of RULES 1, follows the model.
-- Assumes nothing.
use mathlib.Core.Path.{◌≡◌, sym}
use Prim.Native.Nat.{ℕ, ◌≤◌}
use native.Mathlib.Omega.{arith}
use lib.Ieee.{Float, binary32, of_bits, add, sub, div, le}
use Rattle.emath.specs.Rectangles.{zero_f, two_f, max_f, round_ui}
use Rattle.emath.specs.Domain.{within}
use Rattle.emath.specs.Steps.{most}
use Rattle.emath.proofs.Zeros.{val-zero}
use Rattle.model.proofs.AnyNumbers.Engine.{Ops}
use Rattle.model.proofs.AnyNumbers.Exact.{Exact}
use Rattle.model.proofs.InFloats.Ticks.{pt, len, cap, add-pt, add-len, sub-pt, back-pt, high-len, round-pt, le-pt, le-len, start_of, end_of, inside-pt, pt-inside, some-pt}

-- with the step 1 / 2 ^ k point
abbrev pub ops : ℕ → Ops Float
ops k = record {
  none = zero_f;
  add = add binary32;
  sub = sub binary32;
  high = max_f;
  half = λ x. div binary32 x two_f;
  round = round_ui k;
  inside = within;
  le = le;
}

zero_is : (k : ℕ) → zero_f ≡ len k 0
unfolding of_bits
zero_is k = sym (val-zero k)

-- B is 65,536 points in steps
pub exact : (k B : ℕ) → k ≤ 6 → B ≡ most k → Exact (ops k) B (pt k B) (len k)
exact k B l b =
    let l' : k ≤ 149 = omega arith in
    let l₁ : k ≤ 100 = omega arith in
    let c = cap k B l b in
    record {
      none_is = zero_is k;
      add-pt = add-pt k B l' c;
      add-len = add-len k B l' c;
      high-len = high-len k B l' c;
      sub-pt = sub-pt k B l' c;
      back-pt = back-pt k B l' c;
      round-pt = round-pt k B l' c;
      inside-pt = inside-pt k B l b;
      pt-inside = pt-inside k B l b;
      start_of = start_of k B l₁ c;
      end_of = end_of k B l₁ c;
      le-pt = le-pt k B;
      le-len = le-len k;
      some-pt = λ x t. (let w = some-pt k B l b x t in (w.count, w.few, w.is));
    }
