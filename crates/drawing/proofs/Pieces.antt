-- Pieces one after the other, and a turn of each loop. Assumes nothing.
use Rattle.std.proofs.Common.{ℕ, ◌+◌, ◌≤◌, ◌<◌, min, ◌≡◌, refl, ap, sym, Bool, true, false, cond, ◌&&◌, true≢false, List, [], ◌∷◌, ◌++◌, arith, add-one, le-leb, lt-ltb, leb-true, leb, ℤ, pos, length, get_or, drop, set, drop_of_length-le, drop-cons}
use borrow.Author.Tests.{lt-leb}
use lib.Seq.{sets}
use Rattle.text.specs.Fields.{text, columns, has_text, written_at}
use Rattle.drawing.specs.Pieces.{Put, emit, emits, ink, inked, part, next, filled_from}

pub emits-append : (xs ys : List (List ℕ)) (p : Put) → emits (xs ++ ys) p ≡ emits ys (emits xs p)
unfolding emits
emits-append [] ys p = refl
emits-append (x ∷ xs) ys p = emits-append xs ys (emit x p)

-- ---- a byte
pub byte_put : (out : List ℕ) (at b : ℕ) → at < length out → ◌≡◌ {A = Put} (record { at = at + 1; out = set out at b }) (emits ((b ∷ []) ∷ []) (record { at = at; out = out }))
unfolding emit emits
byte_put out at b h = rw (le-leb (at + 1) (length out) (omega arith))

pub no_byte : (out : List ℕ) (at b : ℕ) → length out ≤ at → ◌≡◌ {A = Put} (record { at = at; out = out }) (emits ((b ∷ []) ∷ []) (record { at = at; out = out }))
unfolding emit emits
no_byte out at b h = rw (lt-leb (at + 1) (length out) (omega arith))

-- ---- a number
module _ (out o : List ℕ) (at : ℕ) (z : ℤ) (t : has_text z ≡ true) where
  pub number_put : (b : Bool) → (b, o) ≡ written_at out at z → ◌≡◌ {A = Put} (record { at = cond b (at + 8) at; out = o }) (emits (text z ∷ []) (record { at = at; out = out }))
  unfolding written_at emit emits columns
  number_put b e = go (leb (at + 8) (length out)) (has_text z) t e
    where
      go : (m n : Bool) → n ≡ true → ◌≡◌ {A = Bool × List ℕ} (b, o) (cond (m && n) (true, sets out at (text z)) (false, out))
          → ◌≡◌ {A = Put} (record { at = cond b (at + 8) at; out = o }) (cond m (record { at = at + 8; out = sets out at (text z) }) (record { at = at; out = out }))
      go true true u e = rw (ap (λ (p : Bool × List ℕ). p.0) e, ap (λ (p : Bool × List ℕ). p.1) e)
      go false n u e = rw (ap (λ (p : Bool × List ℕ). p.0) e, ap (λ (p : Bool × List ℕ). p.1) e)
      go true false u e = absurd (true≢false (sym u))

  pub number_fits : (true, o) ≡ written_at out at z → at + 8 ≤ length out
  unfolding written_at
  number_fits e = go (leb (at + 8) (length out)) (has_text z) refl e
    where
      go : (m n : Bool) → leb (at + 8) (length out) ≡ m → ◌≡◌ {A = Bool × List ℕ} (true, o) (cond (m && n) (true, sets out at (text z)) (false, out)) → at + 8 ≤ length out
      go true n u e = leb-true (at + 8) (length out) u
      go false n u e = absurd (true≢false (ap (λ (p : Bool × List ℕ). p.0) e))

-- ---- the bytes that are no spaces
module _ (bs : List ℕ) (i : ℕ) where
  pub ink-turn : i < length bs → inked (drop i bs) ≡ ink (get_or bs i 0) ++ inked (drop (i + 1) bs)
  unfolding inked
  ink-turn h = rw (drop-cons bs i 0 h, add-one)

  pub ink-end : length bs ≤ i → inked (drop i bs) ≡ []
  unfolding inked
  ink-end h = rw (drop_of_length-le bs h)

-- ---- a template
module _ (t s : List ℕ) (line : ℕ) (ns : List ℕ) (mark i : ℕ) where
  pub part-turn : i < length t → filled_from mark (drop i t) s line ns ≡ part mark (get_or t i 0) s line ns ++ filled_from (next mark (get_or t i 0)) (drop (i + 1) t) s line ns
  unfolding filled_from
  part-turn h = rw (drop-cons t i 0 h, add-one)

  pub part_end : length t ≤ i → filled_from mark (drop i t) s line ns ≡ []
  unfolding filled_from
  part_end h = rw (drop_of_length-le t h)

-- ---- numbers that are not in the list
pub numeral-shown : (n : ℕ) → (pos (min n 99999999) ≡ pos (min n 99999999)) × (has_text (pos (min n 99999999)) ≡ true)
unfolding has_text
numeral-shown n = (refl, lt-ltb (min n 99999999) 100000000 (omega arith))

-- ---- a number in columns of its own
pub text-over : (o : List ℕ) (b : Bool) (z : ℤ) → has_text z ≡ true → (b, o) ≡ written_at (32 ∷ 32 ∷ 32 ∷ 32 ∷ 32 ∷ 32 ∷ 32 ∷ 32 ∷ []) 0 z → o ≡ text z
unfolding written_at columns
text-over o b z t e = ap (λ (p : Bool × List ℕ). p.1) (rw t at e)
