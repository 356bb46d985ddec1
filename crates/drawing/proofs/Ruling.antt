-- Lines counted, and the page's numbers: a turn of each loop, what each return answers, and that nothing is too large to reckon with.
-- Assumes nothing.
use Rattle.std.proofs.Common.{ℕ, zero, suc, ◌+◌, ◌-◌, ◌*◌, ◌/◌, ◌≤◌, ◌<◌, max, min, ◌≡◌, refl, sym, Bool, true, false, ◌&&◌, true≢false, List, arith, div-le_self, le-leb, leb-true, leb, ltb, eqb, lit≤, ℤ, pos, negsuc, nat_abs, length, get_or}
use borrow.Author.Tests.{lt-leb}
use Rattle.text.specs.Fields.{negative}
use Rattle.text.specs.Fields.{field_at}
use Rattle.drawing.specs.Pieces.{value_of, field_of}
use Rattle.drawing.proofs.Numbers.{field-small}
use Rattle.drawing.specs.Pages.{biased, place_of, span, columns_of, rows_of, page_for, is_line, lines_from, bands_from, scaled, step_of, cut, ruled, InBounds, bar_from}

-- ---- a number, counted from ten million before zero
pub biased-low : (z : ℤ) → negative z ≡ true → nat_abs z ≤ 9999999 → (10000000 - nat_abs z ≡ biased z) × (biased z < 20000000)
unfolding biased
biased-low (pos n) e h = absurd (true≢false (sym e))
biased-low (negsuc n) e h = (omega arith, omega arith)

pub biased-high : (z : ℤ) → negative z ≡ false → nat_abs z ≤ 9999999 → (10000000 + nat_abs z ≡ biased z) × (biased z < 20000000)
unfolding biased
biased-high (pos n) e h = (refl, omega arith)
biased-high (negsuc n) e h = absurd (true≢false e)

-- ---- lines
module _ (letter size : ℕ) (s : List ℕ) (at : ℕ) where
  pub line-fits : is_line letter size s at ≡ true → at + size ≤ length s
  unfolding is_line
  line-fits e = go (leb (at + size) (length s)) refl e
    where
      go : (b : Bool) → leb (at + size) (length s) ≡ b → b && eqb (get_or s at 0) letter ≡ true → at + size ≤ length s
      go true t e = leb-true (at + size) (length s) t
      go false t e = absurd (true≢false (sym e))

  pub lines-turn : (left n r : ℕ) → n + lines_from left letter size s at ≡ r → 0 < left → is_line letter size s at ≡ true → n + 1 + lines_from (left - 1) letter size s (at + size) ≡ r
  unfolding lines_from
  lines-turn zero n r inv h e = absurd (omega arith)
  lines-turn (suc left) n r inv h e =
      let f : suc left - 1 ≡ left = omega arith in
      let g = rw e at inv in
      rw f (omega (arith, g))

  pub lines-none : (most : ℕ) → 0 + lines_from (most - 0) letter size s (at + size * 0) ≡ lines_from most letter size s at
  lines-none most =
      let e : most - 0 ≡ most = omega arith in
      let f : at + size * 0 ≡ at = omega arith in
      rw (e, f) (omega arith)

  pub lines-stop : (left n r : ℕ) → n + lines_from left letter size s at ≡ r → is_line letter size s at ≡ false → n ≡ r
  unfolding lines_from
  lines-stop zero n r inv e = omega arith
  lines-stop (suc left) n r inv e = let g = rw e at inv in omega (arith, g)

  pub lines_end : (left n r : ℕ) → n + lines_from left letter size s at ≡ r → left ≤ 0 → n ≡ r
  unfolding lines_from
  lines_end zero n r inv h = omega arith
  lines_end (suc left) n r inv h = absurd (omega arith)

-- ---- quotients
quotient-small : (d unit : ℕ) → d ≤ 20000000 → (d * 1600 / unit ≤ 32000000000) × (d * 800 / unit ≤ 32000000000)
quotient-small d unit h = (omega (arith, div-le_self (d * 1600) unit), omega (arith, div-le_self (d * 800) unit))

-- ---- bands
module _ (long short : ℕ) where
  pub bands-hit : (k : ℕ) → 0 < k → k * k * short ≤ long → k ≡ bands_from k long short
  unfolding bands_from
  bands-hit zero h t = absurd (omega arith)
  bands-hit (suc k) h t = rw (le-leb (suc k * suc k * short) long t)

  pub bands-turn : (k : ℕ) → 0 < k → long < k * k * short → bands_from k long short ≡ bands_from (k - 1) long short
  unfolding bands_from
  bands-turn zero h t = absurd (omega arith)
  bands-turn (suc k) h t = let e : suc k - 1 ≡ k = omega arith in rw (lt-leb (suc k * suc k * short) long t, e)

  pub bands-end : (k : ℕ) → k ≤ 0 → 1 ≡ bands_from k long short
  unfolding bands_from
  bands-end zero h = refl
  bands-end (suc k) h = absurd (omega arith)

-- ---- the scale's bar
module _ (unit : ℕ) where
  pub bar-hit : (left bar : ℕ) → 0 < left → 3 * bar ≤ unit → bar ≡ bar_from left bar unit
  unfolding bar_from
  bar-hit zero bar h t = absurd (omega arith)
  bar-hit (suc left) bar h t = rw (le-leb (3 * bar) unit t)

  pub bar-turn : (left bar : ℕ) → 0 < left → unit < 3 * bar → bar_from left bar unit ≡ bar_from (left - 1) (bar / 2) unit
  unfolding bar_from
  bar-turn zero bar h t = absurd (omega arith)
  bar-turn (suc left) bar h t = let e : suc left - 1 ≡ left = omega arith in rw (lt-leb (3 * bar) unit t, e)

  pub bar-end : (left bar : ℕ) → left ≤ 0 → bar ≡ bar_from left bar unit
  unfolding bar_from
  bar-end zero bar h = refl
  bar-end (suc left) bar h = absurd (omega arith)

-- ---- a page
scaled_small : (large : Bool) (unit d : ℕ) → d ≤ 20000000 → scaled large unit d ≤ 32000000000
unfolding scaled
scaled_small true unit d h = (quotient-small d unit h).0
scaled_small false unit d h = (quotient-small d unit h).1

pub cut-in-bounds : (w c r width height bands : ℕ) → w ≤ 512 → c ≤ 32 → r ≤ 128 → width ≤ 20000000 → height ≤ 20000000 → bands ≤ 22 → InBounds (cut w c r width height bands)
unfolding cut
cut-in-bounds w c r width height bands hw hc hr a b n =
    let q = div-le_self (max width height) bands in
    record {
      widgets = hw;
      columns = hc;
      rows = hr;
      width = a;
      height = b;
      bands = n;
      step = omega arith;
      some = omega arith;
      unit = omega arith;
      pitch = omega (arith, scaled_small (ltb 96 w) (max (step_of (max width height) bands) 32) (min width height) (omega arith));
    }

none-counted : (letter size : ℕ) (s : List ℕ) (at : ℕ) → lines_from 0 letter size s at ≤ 0
unfolding lines_from
none-counted letter size s at = lit≤ tt

counted : (most letter size : ℕ) (s : List ℕ) (at : ℕ) (b : Bool) → is_line letter size s at ≡ b → lines_from most letter size s (at + size) ≤ most → lines_from (suc most) letter size s at ≤ suc most
unfolding lines_from
counted most letter size s at true e h = rw e (omega arith)
counted most letter size s at false e h = rw e (omega arith)

no-bands : (long short : ℕ) → bands_from 0 long short ≤ 22
unfolding bands_from
no-bands long short = lit≤ tt

some-bands : (n long short : ℕ) (b : Bool) → leb (suc n * suc n * short) long ≡ b → suc n ≤ 22 → bands_from n long short ≤ 22 → bands_from (suc n) long short ≤ 22
unfolding bands_from
some-bands n long short true e h r = rw e h
some-bands n long short false e h r = rw e r

pub lines-few : (most letter size : ℕ) (s : List ℕ) (at : ℕ) → lines_from most letter size s at ≤ most
lines-few zero letter size s at = none-counted letter size s at
lines-few (suc most) letter size s at = counted most letter size s at (is_line letter size s at) refl (lines-few most letter size s (at + size))

bands-few : (n long short : ℕ) → n ≤ 22 → bands_from n long short ≤ 22
bands-few zero long short h = no-bands long short
bands-few (suc n) long short h = some-bands n long short (leb (suc n * suc n * short) long) refl h (bands-few n long short (omega arith))

place-small : (s : List ℕ) (line i : ℕ) → place_of s line i < 20000000
unfolding place_of field_of
place-small s line i = go (value_of (field_at 9999999 s (line + (1 + 8 * i)))) (field-small s (line + (1 + 8 * i))).1
  where
    go : (z : ℤ) → nat_abs z ≤ 9999999 → biased z < 20000000
    go (pos n) h = (biased-high (pos n) refl h).1
    go (negsuc n) h = (biased-low (negsuc n) refl h).1

span_small : (s : List ℕ) (line i j : ℕ) → span s line i j ≤ 20000000
unfolding span
span_small s line i j = omega (arith, place-small s line j)

pub page-in-bounds : (s : List ℕ) (w : ℕ) → w ≤ 512 → InBounds (page_for s w)
unfolding page_for ruled columns_of rows_of
page-in-bounds s w h =
    cut-in-bounds w _ _ _ _ _ h (lines-few 32 67 18 s (74 * w + 34)) (lines-few 128 68 18 s _) (span_small s (74 * w) 0 2) (span_small s (74 * w) 1 3) (bands-few _ _ _ (omega arith))
