-- What the reader and the writer answer at each return, from what the calls before it answered. Assumes nothing.
use Rattle.std.proofs.Common.{ℕ, ◌+◌, ◌<◌, ◌≤◌, ◌≡◌, ap, List, true, false, ℤ, nat_abs, length, take, drop, le-leb}
use Rattle.std.proofs.lemmas.List.Edits.{sets}
use Rattle.std.proofs.lemmas.Bool.{lt-leb}
use Rattle.text.specs.Fields.{columns, field, field_at, negative, has_text, written_at}
use Rattle.text.specs.declared.Field.{Field}
use Rattle.text.specs.declared.Field.TheVariants.{Wrong}

-- ---- at a place of a longer text
module _ (limit : ℕ) (s : List ℕ) (at : ℕ) where
  pub few : length s < at + 8 → Wrong ≡ field_at limit s at
  unfolding field_at
  few h = rw (lt-leb (at + 8) (length s) h)

  pub found : (r : Field) → at + 8 ≤ length s → r ≡ field limit (take 8 (drop at s)) → r ≡ field_at limit s at
  unfolding field_at
  found r h e = rw (le-leb (at + 8) (length s) h) e

-- ---- the writer
module _ (out : List ℕ) (at : ℕ) (z : ℤ) where
  pub no_room_lem : length out < at + 8 → (false, out) ≡ written_at out at z
  unfolding written_at
  no_room_lem h = rw (lt-leb (at + 8) (length out) h)

  pub no_text : at + 8 ≤ length out → has_text z ≡ false → (false, out) ≡ written_at out at z
  unfolding written_at
  no_text h t = rw (le-leb (at + 8) (length out) h, t)

  pub put-there : (after : List ℕ) → at + 8 ≤ length out → has_text z ≡ true → after ≡ sets out at (columns (negative z) (nat_abs z) 8) → (true, after) ≡ written_at out at z
  unfolding written_at
  put-there after h t e = rw (le-leb (at + 8) (length out) h, t) (ap (λ (l : List ℕ). (true, l)) e)
