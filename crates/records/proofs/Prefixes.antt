-- RULES 6.23: no record has more than 98 bytes, which H has; so whether 1 to 3 apply to a text that is longer than 512 of them shows in
-- its first 50,177 bytes. Assumes nothing.
use Rattle.std.proofs.Common.{ℕ, zero, suc, ◌+◌, ◌-◌, ◌*◌, ◌≤◌, ◌<◌, ◌≡◌, refl, ap, sym, ◌∙◌, List, [], ◌∷◌, Bool, true, false, cond, arith, leb-true, leb-false, leb, eqb, length, take, drop, length-drop, take_all, length-take-le}
use Rattle.std.proofs.Math.Nat.{min-eq_left, min-le_left}
use Rattle.std.proofs.Math.Seq.{take-nil}
use Rattle.emath.specs.Numbers as number
use Rattle.text.specs.Letters as letters
use Rattle.records.specs.declared.SizeUnit.{SizeUnit}
use Rattle.records.specs.Parts.{letter, ends}
use Rattle.records.specs.Records.{options_in, grid_fits, record_of, field_count, size, rest, next_at}
use Rattle.records.specs.Headings.{stands, one, past, unit_at, grid_at, steps_at, has_unit, unit_in, has_grid_lem, heading_in, unit_fits, options_fit, heading_fault}
use Rattle.records.specs.Sheets.{records_from, steps_left, records, after, after_all, misplaced, sheet_fault, checked}
use Rattle.records.specs.Records.{Record}
use Rattle.records.proofs.Reached.{not-empty}
use Rattle.records.proofs.RecordPrefixes.{drop-take, same_ends, same-grid-fits, same-heading-fits, same_layout, same-letter, same-options, same-pair, same-record, same-rect, small_size}

-- ---- the records within the prefix
pub same-records : (u : SizeUnit) (left m : ℕ) (s : List ℕ) → 98 * left ≤ m → records_from u left (take m s) ≡ records_from u left s
unfolding records_from
same-records u zero m s h = refl
same-records u (suc left) m [] h = ap (λ (l : List ℕ). records_from u (suc left) l) (take-nil m)
same-records u (suc left) zero (b ∷ s) h = absurd (omega arith)
same-records u (suc left) (suc m) (b ∷ s) h =
    let z = small_size (b ∷ s) in
    let r : record_of u (take (suc m) (b ∷ s)) ≡ record_of u (b ∷ s) = same-record (suc m) (omega arith) (b ∷ s) u in
    let d : rest (take (suc m) (b ∷ s)) ≡ take (suc m - size (b ∷ s)) (rest (b ∷ s)) = drop-take (size (b ∷ s)) (suc m) (b ∷ s) in
    rw (r, d) (ap (λ (rs : List Record). record_of u (b ∷ s) ∷ rs) (same-records u left (suc m - size (b ∷ s)) (rest (b ∷ s)) (omega (arith, z))))

-- and something is left after them
left_after : (left : ℕ) (s : List ℕ) → 98 * left < length s → 0 < length (after left s)
unfolding after
left_after zero s h = omega arith
left_after (suc left) s h = left_after left (rest s) (omega (arith, length-drop (size s) s, small_size s))

-- ---- the heading within the prefix
pub few-records : (s : List ℕ) → (1 ≤ (heading_in s).records) × ((heading_in s).records ≤ 3)
unfolding heading_in
few-records s = go (has_unit s) (has_grid_lem s)
  where
    go : (b c : Bool) → (1 ≤ 1 + one b + one c) × (1 + one b + one c ≤ 3)
    go true true = (omega arith, omega arith)
    go true false = (omega arith, omega arith)
    go false true = (omega arith, omega arith)
    go false false = (omega arith, omega arith)

near : (s : List ℕ) (at : ℕ) → next_at s at ≤ at + 98
unfolding next_at
near s at = omega (arith, min-le_left (at + size (drop at s)) (length s), small_size (drop at s))

past_near : (b : ℕ) (s : List ℕ) (at : ℕ) → past b s at ≤ at + 98 * one (stands b s at)
unfolding past
past_near b s at = go (stands b s at)
  where
    go : (there : Bool) → cond there (next_at s at) at ≤ at + 98 * one there
    go true = omega (arith, near s at)
    go false = omega arith

at_most_one : (b : Bool) → one b ≤ 1
at_most_one true = omega arith
at_most_one false = omega arith

-- of a long text no record reaches its end
next-is : (s : List ℕ) (at : ℕ) → at + 98 ≤ length s → next_at s at ≡ at + size (drop at s)
unfolding next_at
next-is s at h = min-eq_left (omega (arith, small_size (drop at s)))

module _ (m : ℕ) (s : List ℕ) (long : m ≤ length s) where
  abbrev t' : List ℕ
  t' = take m s

  -- a record that begins 98 bytes before the prefix ends, or earlier
  module _ (at : ℕ) (h : at + 98 ≤ m) where
    drop-same : drop at t' ≡ take (m - at) (drop at s)
    drop-same = drop-take at m s

    letter-same : letter (drop at t') ≡ letter (drop at s)
    letter-same = ap letter drop-same ∙ same-letter (m - at) (omega arith) (drop at s)

    stands_same : (b : ℕ) → stands b t' at ≡ stands b s at
    unfolding stands
    stands_same b = ap (λ (l : ℕ). eqb l b) letter-same

    next-same : next_at t' at ≡ next_at s at
    next-same = next-is t' at (omega (arith, length-take-le m s long)) ∙ ap (λ (l : ℕ). at + (2 + 8 * field_count l)) letter-same ∙ sym (next-is s at (omega arith))

    past_same : (b : ℕ) → past b t' at ≡ past b s at
    unfolding past
    past_same b = rw (stands_same b, next-same)

    ends_same : (n : ℕ) → n ≤ 12 → ends (drop at t') n ≡ ends (drop at s) n
    ends_same n l = ap (λ (u : List ℕ). ends u n) drop-same ∙ same_ends (m - at) (omega arith) (drop at s) n l

    options-same : options_in (drop at t') ≡ options_in (drop at s)
    options-same = ap options_in drop-same ∙ same-options (m - at) (omega arith) (drop at s)

    grid-fits-same : grid_fits (drop at t') ≡ grid_fits (drop at s)
    grid-fits-same = ap grid_fits drop-same ∙ same-grid-fits (m - at) (omega arith) (drop at s)

  module _ (h : 300 ≤ m) where
    unit-near : unit_at s + 98 ≤ m
    unit-near = omega (arith, near s 0)

    grid-near : grid_at s + 98 ≤ m
    grid-near = omega (arith, near s 0, past_near letters.M s (unit_at s), at_most_one (stands letters.M s (unit_at s)))

    unit-at-same : unit_at t' ≡ unit_at s
    unit-at-same = next-same 0 (omega arith)

    grid-at-same : grid_at t' ≡ grid_at s
    grid-at-same = ap (past letters.M t') unit-at-same ∙ past_same (unit_at s) unit-near letters.M

    steps-at-same : steps_at t' ≡ steps_at s
    steps-at-same = ap (past letters.G t') grid-at-same ∙ past_same (grid_at s) grid-near letters.G

    has-unit-same : has_unit t' ≡ has_unit s
    unfolding has_unit
    has-unit-same = ap (stands letters.M t') unit-at-same ∙ stands_same (unit_at s) unit-near letters.M

    unit-same : unit_in t' ≡ unit_in s
    unfolding unit_in
    unit-same = rw has-unit-same

    has-grid-same : has_grid_lem t' ≡ has_grid_lem s
    unfolding has_grid_lem
    has-grid-same = ap (stands letters.G t') grid-at-same ∙ stands_same (grid_at s) grid-near letters.G

    pub heading-same : heading_in t' ≡ heading_in s
    unfolding heading_in
    heading-same = rw (same_layout m (omega arith) s, same-rect m (omega arith) s, same-pair m (omega arith) s 10 (omega arith), unit-same, has-unit-same, has-grid-same, steps-at-same, grid-at-same, options-same (grid_at s) grid-near)

    unit-fits-same : unit_fits t' ≡ unit_fits s
    unfolding unit_fits
    unit-fits-same = rw (has-unit-same, unit-at-same, ends_same (unit_at s) unit-near 0 (omega arith))

    options-fit-same : options_fit t' ≡ options_fit s
    unfolding options_fit
    options-fit-same = rw (has-grid-same, grid-at-same, grid-fits-same (grid_at s) grid-near)

    fault-same : heading_fault t' ≡ heading_fault s
    unfolding heading_fault
    fault-same = rw (same-heading-fits m (omega arith) s, unit-fits-same, options-fit-same, heading-same)

-- the heading is no longer than its records may be
next-few : (s : List ℕ) → (heading_in s).next ≤ 98 * (heading_in s).records
unfolding heading_in has_unit has_grid_lem
next-few s = omega (arith, near s 0, past_near letters.M s (unit_at s), past_near letters.G s (grid_at s))

-- ---- refusals 1 to 3
some : (s : List ℕ) (room : ℕ) → 50176 < length s → sheet_fault s room ≡ cond (eqb (misplaced s) 0) (record { number = number.too_long; at = 513 }) (record { number = number.malformed; at = misplaced s })
unfolding sheet_fault
some s room h =
    let f = few-records s in
    rw (not-empty (after_all s) (left_after (steps_left s) (drop (heading_in s).next s) (omega (arith, next-few s, length-drop (heading_in s).next s))))

same_check : (s t : List ℕ) (room : ℕ) → sheet_fault s room ≡ sheet_fault t room → heading_in s ≡ heading_in t → records s ≡ records t → checked s room ≡ checked t room
unfolding checked
same_check s t room f g r = rw (f, r, g)

pub record Prefix (s : List ℕ) (room : ℕ) : Type 0 where
  pub check : checked (take 50177 s) room ≡ checked s room
  pub heading : heading_in (take 50177 s) ≡ heading_in s
  pub steps : records (take 50177 s) ≡ records s

pub long-text : (s : List ℕ) (room : ℕ) → 50177 ≤ length s → Prefix s room
unfolding misplaced
long-text s room h =
    let g : heading_in (take 50177 s) ≡ heading_in s = heading-same 50177 s h (omega arith) in
    let f = few-records s in
    let d : drop (heading_in s).next (take 50177 s) ≡ take (50177 - (heading_in s).next) (drop (heading_in s).next s) = drop-take (heading_in s).next 50177 s in
    let r : records (take 50177 s) ≡ records s = rw (g, d) (same-records (heading_in s).unit (steps_left s) (50177 - (heading_in s).next) (drop (heading_in s).next s) (omega (arith, next-few s))) in
    let l : length (take 50177 s) ≡ 50177 = length-take-le 50177 s h in
    let q : sheet_fault (take 50177 s) room ≡ sheet_fault s room = some (take 50177 s) room (omega (arith, l)) ∙ rw (fault-same 50177 s h (omega arith), r, g) (sym (some s room (omega arith))) in
    record {
      check = same_check (take 50177 s) s room q g r;
      heading = g;
      steps = r;
    }

pub long-unit : (s : List ℕ) → has_unit (take 50177 s) ≡ has_unit s
long-unit s = go (leb (length s) 50177) refl
  where
    go : (b : Bool) → leb (length s) 50177 ≡ b → has_unit (take 50177 s) ≡ has_unit s
    go true e = ap has_unit (take_all 50177 s (leb-true (length s) 50177 e))
    go false e = has-unit-same 50177 s (omega (arith, leb-false (length s) 50177 e)) (omega arith)
