-- What the check's answer says of a text, and what its number and its record are. Assumes nothing.
use Rattle.std.proofs.Common.{ℕ, ◌+◌, ◌*◌, ◌≤◌, ◌<◌, ◌≡◌, refl, sym, ap, ◌∙◌, Bool, true, false, cond, List, arith, eqb, ltb, length, ltb-false, eqb-true}
use Rattle.std.proofs.lemmas.Bool.{eqb-false}
use Rattle.emath.specs.Numbers as number
use Rattle.emath.proofs.Refusals.{or-none}
use Rattle.records.specs.Headings.{heading_in, heading_fault}
use Rattle.records.specs.Sheets.{records, after_all, wrong_from, misplaced, widgets, is_empty, Fault, sheet_fault, checked, checked_number, checked_record}
use Rattle.records.specs.Sheets.{Checked}
use Rattle.records.specs.Sheets.{Accepted, Refused}

-- ---- the number and the record
module _ (text : List ℕ) (room : ℕ) where
  abbrev fault : Fault
  fault = sheet_fault text room

  -- by its three tests
  abbrev tests : Bool → Bool → Bool → Fault
  tests a b c =
      cond a
      (cond b (cond c (record { number = number.no_room; at = 1 }) (record { number = 0; at = 0 })) (record { number = number.too_long; at = 513 }))
      (record { number = number.malformed; at = misplaced text })

  abbrev answer : Bool → Checked
  answer b = cond b (Accepted ((heading_in text).records + length (records text)) (widgets (records text))) (Refused fault.number fault.at)

  pub number_is : checked_number (checked text room) ≡ fault.number
  unfolding checked checked_number
  number_is = go (eqb fault.number 0) refl
    where
      go : (b : Bool) → eqb fault.number 0 ≡ b → checked_number (answer b) ≡ fault.number
      go true e = sym (eqb-true fault.number 0 e)
      go false e = refl

  -- no number, no record
  at_none : fault.number ≡ 0 → fault.at ≡ 0
  unfolding sheet_fault
  at_none h = go (eqb (misplaced text) 0) (is_empty (after_all text)) (ltb room (8 * widgets (records text))) h
    where
      go : (a b c : Bool) → (tests a b c).number ≡ 0 → (tests a b c).at ≡ 0
      go true true true h = absurd (omega (arith, h))
      go true true false h = refl
      go true false c h = absurd (omega (arith, h))
      go false b c h = absurd (omega (arith, h))

  pub record_is : checked_record (checked text room) ≡ fault.at
  unfolding checked checked_record
  record_is = go (eqb fault.number 0) refl
    where
      go : (b : Bool) → eqb fault.number 0 ≡ b → checked_record (answer b) ≡ fault.at
      go true e = sym (at_none (eqb-true fault.number 0 e))
      go false e = refl

  pub answer-says : (r : Checked) → r ≡ checked text room → (r ≡ checked text room) × (checked_number r ≡ fault.number) × (checked_record r ≡ fault.at)
  answer-says r e = (e, ap checked_number e ∙ number_is, ap checked_record e ∙ record_is)

  -- a refusal has a number
  pub some_number : (n at : ℕ) → checked text room ≡ Refused n at → 0 < n
  unfolding checked
  some_number n at h = go (eqb fault.number 0) refl h
    where
      go : (b : Bool) → eqb fault.number 0 ≡ b → answer b ≡ Refused n at → 0 < n
      go true e h = let o : ◌≡◌ {A = ℕ} 0 1 = cc in absurd (omega arith)
      go false e h = let z : fault.number ≡ n = cc in omega (arith, z, eqb-false fault.number 0 e)

-- ---- a text that is not refused
pub record Clear (text : List ℕ) (room : ℕ) : Type 0 where
  pub heading : heading_fault text ≡ 0
  pub steps : wrong_from ((heading_in text).records + 1) (records text) ≡ 0
  pub fits : 8 * widgets (records text) ≤ room

no-fault : (text : List ℕ) (room : ℕ) → (sheet_fault text room).number ≡ 0 → Clear text room
unfolding sheet_fault misplaced
no-fault text room h = go (eqb (misplaced text) 0) (is_empty (after_all text)) (ltb room (8 * widgets (records text))) refl refl h
  where
    go : (a b c : Bool) → eqb (misplaced text) 0 ≡ a → ltb room (8 * widgets (records text)) ≡ c → (tests text room a b c).number ≡ 0 → Clear text room
    go true true true e d h = absurd (omega (arith, h))
    go true true false e d h =
        let z = or-none (heading_fault text) (wrong_from ((heading_in text).records + 1) (records text)) (eqb-true (misplaced text) 0 e) in
        record { heading = z.0; steps = z.1; fits = ltb-false room (8 * widgets (records text)) d }
    go true false c e d h = absurd (omega (arith, h))
    go false b c e d h = absurd (omega (arith, h))

pub clear : (text : List ℕ) (room r w : ℕ) → checked text room ≡ Accepted r w → Clear text room
unfolding checked_number
clear text room r w e = no-fault text room (sym (number_is text room) ∙ ap checked_number e)
