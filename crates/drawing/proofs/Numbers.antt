-- What the fields of a list hold: each number has a text of eight columns. Assumes nothing.
use Rattle.std.proofs.Common.{ℕ, ◌≤◌, ◌≡◌, refl, true, List, arith, lt-ltb, ℤ, pos, negsuc, nat_abs}
use Rattle.text.specs.Fields.{has_text, field_at}
use Rattle.text.specs.declared.Field.{Field}
use Rattle.text.specs.declared.Field.TheVariants.{Blank, Number, Wrong}
use Rattle.text.proofs.RoundTrip.{at-is-text}
use Rattle.drawing.specs.Pieces.{value_of}

pub small-text : (z : ℤ) → nat_abs z ≤ 9999999 → has_text z ≡ true
unfolding has_text
small-text (pos n) h = lt-ltb n 100000000 (omega arith)
small-text (negsuc n) h = lt-ltb n 9999999 (omega arith)

pub field-small : (s : List ℕ) (at : ℕ) → (has_text (value_of (field_at 9999999 s at)) ≡ true) × (nat_abs (value_of (field_at 9999999 s at)) ≤ 9999999)
unfolding value_of
field-small s at = go (field_at 9999999 s at) refl
  where
    go : (f : Field) → field_at 9999999 s at ≡ f → (has_text (value_of f) ≡ true) × (nat_abs (value_of f) ≤ 9999999)
    go Blank e = (small-text (pos 0) (omega arith), omega arith)
    go (Number z) e = let h = (at-is-text 9999999 s at z e).1 in (small-text z h, h)
    go Wrong e = (small-text (pos 0) (omega arith), omega arith)
