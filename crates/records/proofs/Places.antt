-- Where a record begins and ends in a longer text. Assumes nothing.
use Rattle.std.proofs.Common.{ℕ, zero, suc, ◌+◌, ◌-◌, ◌*◌, ◌≤◌, ◌<◌, min, ◌≡◌, ap, sym, ◌∙◌, List, [], ◌∷◌, Bool, true, false, cond, arith, add-zero, eqb, length, get_or, take, drop, length-drop, drop_of_length-le, get_or-drop, drop-drop, take_all}
use Rattle.std.proofs.Math.Nat.{min-eq_left, min-eq_right, min-le_right, zero-min, suc-min-suc}
use Rattle.std.proofs.Math.Seq.{drop-nil}
use Rattle.text.specs.Letters as letters
use Rattle.records.specs.Parts.{letter}
use Rattle.records.specs.Records.{Record}
use Rattle.std.specs.Prelude.{None as Wrong}
use Rattle.records.specs.Records.{record_of, record_at, single_record, field_count, size, rest, next_at}
use Rattle.records.specs.declared.SizeUnit.{SizeUnit}
use Rattle.records.specs.Headings.{stands, past, unit_at, grid_at, heading_in}

-- ---- read_record
pub part-drop : (s : List ℕ) (at : ℕ) → take (length s - at) (drop at s) ≡ drop at s
part-drop s at = take_all (length s - at) (drop at s) (omega (arith, length-drop at s))

pub beyond : (u : SizeUnit) (s : List ℕ) (at : ℕ) → length s < at → Wrong ≡ record_at u s at
unfolding record_at record_of single_record
beyond u s at h = let l : length s ≤ at = omega arith in let e : drop at s ≡ [] = drop_of_length-le s l in rw e

pub there : (u : SizeUnit) (s : List ℕ) (at : ℕ) (r : Record) → r ≡ record_of u (take (length s - at) (drop at s)) → r ≡ record_at u s at
unfolding record_at
there u s at r e = e ∙ ap (λ (t : List ℕ). record_of u t) (part-drop s at)

-- ---- next_record
pub letter_at : (s : List ℕ) (at : ℕ) → letter (drop at s) ≡ get_or s at 0
letter_at s at = get_or-drop at s 0 0 ∙ ap (λ (i : ℕ). get_or s i 0) (add-zero at)

pub next-beyond : (s : List ℕ) (at : ℕ) → length s < at → length s ≡ next_at s at
unfolding next_at
next-beyond s at h = sym (min-eq_right (omega arith))

module _ (s : List ℕ) (at b n : ℕ) (eb : b ≡ get_or s at 0) (en : n ≡ field_count b) where
  size-at : size (drop at s) ≡ 2 + 8 * n
  size-at = ap (λ (x : ℕ). 2 + 8 * x) (ap (λ (x : ℕ). field_count x) (letter_at s at ∙ sym eb) ∙ sym en)

  pub next-short : length s - at < 2 + 8 * n → length s ≡ next_at s at
  unfolding next_at
  next-short h = sym (min-eq_right (omega (arith, size-at)))

  pub next-there : at ≤ length s → 2 + 8 * n ≤ length s - at → at + (2 + 8 * n) ≡ next_at s at
  unfolding next_at
  next-there l h = ap (λ (x : ℕ). at + x) (sym size-at) ∙ sym (min-eq_left (omega (arith, size-at)))

to_the_end : (s : List ℕ) (n : ℕ) → drop (min n (length s)) s ≡ drop n s
to_the_end [] n = drop-nil (min n 0) ∙ sym (drop-nil n)
to_the_end (b ∷ s) zero = ap (λ (i : ℕ). drop i (b ∷ s)) (zero-min (length (b ∷ s)))
to_the_end (b ∷ s) (suc n) = ap (λ (i : ℕ). drop i (b ∷ s)) (suc-min-suc n (length s)) ∙ to_the_end s n

-- what stands there is the rest of the text
pub next-is-rest : (s : List ℕ) (at : ℕ) → drop (next_at s at) s ≡ rest (drop at s)
unfolding next_at
next-is-rest s at = to_the_end s (at + size (drop at s)) ∙ sym (drop-drop (size (drop at s)) at s)

pub next-within : (s : List ℕ) (at : ℕ) → next_at s at ≤ length s
unfolding next_at
next-within s at = min-le_right _ _

-- ---- what comes before the steps
pub part_at : (s : List ℕ) (at m : ℕ) → at ≡ m → take (length s - at) (drop at s) ≡ drop m s
part_at s at m e = part-drop s at ∙ ap (λ (n : ℕ). drop n s) e

pub stands-there : (b : ℕ) (s : List ℕ) (at c : ℕ) → c ≡ get_or s at 0 → eqb c b ≡ stands b s at
unfolding stands
stands-there b s at c e = ap (λ (x : ℕ). eqb x b) (e ∙ sym (letter_at s at))

pub past-within : (b : ℕ) (s : List ℕ) (at : ℕ) → at ≤ length s → past b s at ≤ length s
unfolding past
past-within b s at h = go (stands b s at)
  where
    go : (there : Bool) → cond there (next_at s at) at ≤ length s
    go true = next-within s at
    go false = h

pub grid-within : (s : List ℕ) → grid_at s ≤ length s
grid-within s = past-within letters.M s (unit_at s) (next-within s 0)

pub heading-within : (s : List ℕ) → (heading_in s).next ≤ length s
unfolding heading_in
heading-within s = past-within letters.G s (grid_at s) (grid-within s)
