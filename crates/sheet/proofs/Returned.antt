-- What a call returns: the number and the record in its answer are those of what it gives, 0 and 0 where it is accepted. Assumes nothing.
use Prim.Native.Nat.{ℕ}
use mathlib.Core.Path.{◌≡◌, refl, ap, sym, ◌∙◌}
use mathlib.Core.Bool.{Bool, true, false, cond}
use mathlib.Core.List.{List}
use native.Mathlib.Omega.{arith}
use lib.Dec.{eqb}
use lib.IntN.{ℤ}
use lib.ListN.{length}
use borrow.Author.Tests.{eqb-true}
use Rattle.grid.specs.declared.Memory.{Memory}
use Rattle.records.specs.Sheets.{checked}
use Rattle.records.specs.Sheets.{Checked}
use Rattle.records.specs.Sheets as checked-of
use Rattle.records.proofs.Checks.{some_number}
use Rattle.sheet.specs.Slices.{Accepted, Refused}
use Rattle.emath.specs.Refusals.{number_of}
use Rattle.emath.specs.declared.Refusal.{Refusal}
use Rattle.emath.proofs.Refusals.{number-some}
use Rattle.sheet.specs.Slices.{Passed}
use Rattle.sheet.specs.Pass.{Sheet, Outcome, pass}
use Rattle.sheet.specs.Slices.{laid_of, laid_number, laid_record, passed_of, after_check, laid, Called}
use Rattle.sheet.proofs.Passes.{Ended, well, badly, outcome-ends}

pub laid-number : (n at : ℕ) → laid_number (laid_of n at) ≡ n
unfolding laid_number laid_of
laid-number n at = go (eqb n 0) refl
  where
    go : (b : Bool) → eqb n 0 ≡ b → laid_number (cond b Accepted (Refused n at)) ≡ n
    go true e = sym (eqb-true n 0 e)
    go false e = refl

pub laid-refused : (e : Refusal) (at : ℕ) → laid_of (number_of e) at ≡ Refused (number_of e) at
unfolding laid_of
laid-refused e at = rw (number-some e)

pub laid-record : (n at : ℕ) → (n ≡ 0 → at ≡ 0) → laid_record (laid_of n at) ≡ at
unfolding laid_record laid_of
laid-record n at f = go (eqb n 0) refl
  where
    go : (b : Bool) → eqb n 0 ≡ b → laid_record (cond b Accepted (Refused n at)) ≡ at
    go true e = sym (f (eqb-true n 0 e))
    go false e = refl

-- ---- an accepted pass is at no record
abbrev AtNone : Outcome → Type 0
AtNone o = o.number ≡ 0 → o.at ≡ 0

pass-at-none : (k : ℕ) (s : Sheet) (known : Bool) (m : Memory) (sizing : Bool) → AtNone (pass k s known m sizing)
unfolding pass
pass-at-none k s known m sizing z = go (outcome-ends _ m _)
  where
    go : Ended (pass k s known m sizing) → (pass k s known m sizing).at ≡ 0
    go (well e a p) = a
    go (badly l e) = absurd (omega (arith, z, l))

module _ (text : List ℕ) (known : Bool) (m : Memory) (sizing : Bool) (out : List ℤ) where
  laid-at-none : AtNone (laid text known m sizing out).outcome
  unfolding laid after_check
  laid-at-none = go (checked text (length out)) refl
    where
      go : (c : Checked) → checked text (length out) ≡ c → AtNone (after_check c text known m sizing out).outcome
      go (checked-of.Refused n at) e z = absurd (omega (arith, z, some_number text (length out) n at e))
      go (checked-of.Accepted r w) e z = pass-at-none _ _ _ _ _ z

  -- so a call's answer and its slice say all of it
  pub called : (p : Passed) (exit : List ℤ) → p ≡ passed_of (laid text known m sizing out).outcome → exit ≡ (laid text known m sizing out).slice → Called text known m sizing out p exit
  called p exit a s = record {
    answer = a;
    number = ap (λ (q : Passed). laid_number q.laid) a ∙ laid-number _ _;
    at = ap (λ (q : Passed). laid_record q.laid) a ∙ laid-record _ _ laid-at-none;
    slice = s;
  }
