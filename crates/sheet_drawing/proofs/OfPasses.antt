-- The lines of a list, counted and read back: as many W lines as cells, as many C and D lines as entries, and each field the number that was
-- written. Assumes nothing.
use Prim.Native.Nat.{ℕ, zero, suc, ◌+◌, ◌*◌, ◌≤◌, ◌<◌}
use mathlib.Core.Path.{◌≡◌, refl, ap, sym, ◌∙◌}
use mathlib.Core.Bool.{Bool, true, false, ◌&&◌}
use mathlib.Core.List.{List, [], ◌∷◌, ◌++◌, append_assoc, append-nil}
use native.Mathlib.Omega.{arith}
use borrow.Author.Tests.{le-leb, lt-leb, eq-eqb, ne_eqb, eqb-true, eqb-false}
use lib.Dec.{leb, eqb}
use lib.IntN.{ℤ, pos, nat_abs}
use lib.Ieee.{Float}
use lib.ListN.{length, get_or, take, drop, length-append}
use lib.Seq.{take_at, drop-append-add, get_or_at}
use Rattle.text.proofs.LineTexts.{texts-length}
use Rattle.text.specs.Fields.{text, field, field_at}
use Rattle.text.specs.Lines.{texts, line}
use Rattle.text.proofs.RoundTrip.{text-is-read}
use Rattle.records.specs.Sheets.{widget, widgets}
use Rattle.records.specs.Records.{Record}
use Rattle.sheet.specs.Pass.{Cell}
use Rattle.sheet.specs.Ticks.{ticks}
use Rattle.sheet.specs.Slices.{eight}
use Rattle.sheet.proofs.Walking.{at_most_one}
use Rattle.listing.specs.Lists.{widget_lines, entry_lines}
use Rattle.listing.proofs.Written.{no_lines}
use Rattle.drawing.specs.Pieces.{value_of, field_of}
use Rattle.drawing.specs.Pages.{is_line, lines_from}
use Rattle.drawing.proofs.Numbers.{small-text}
use Rattle.drawing.proofs.Sizes.{text-size}

-- ---- a field of a line
-- the eight columns of number i
texts-at : (zs : List ℤ) (i : ℕ) (r : List ℕ) → i < length zs → take 8 (drop (8 * i) (texts zs ++ r)) ≡ text (get_or zs i (pos 0))
unfolding texts
texts-at [] i r h = absurd (omega arith)
texts-at (z ∷ zs) zero r h = ap (λ (l : List ℕ). take 8 l) (append_assoc (text z) (texts zs) r) ∙ take_at (text z) (texts zs ++ r) 8 (text-size z)
texts-at (z ∷ zs) (suc i) r h =
    let e : 8 * suc i ≡ length (text z) + 8 * i = omega (arith, text-size z) in
    rw (append_assoc (text z) (texts zs) r, e, drop-append-add (text z) (texts zs ++ r) (8 * i)) (texts-at zs i r (omega arith))

value_read : (z : ℤ) → nat_abs z ≤ 9999999 → value_of (field 9999999 (text z)) ≡ z
unfolding value_of
value_read z h = rw (text-is-read 9999999 z (small-text z h) h)

-- the columns of a line's field i, wherever the line stands
columns-at : (a b : List ℕ) (letter : ℕ) (zs : List ℤ) (i : ℕ) → i < length zs → take 8 (drop (length a + (1 + 8 * i)) (a ++ (line letter zs ++ b))) ≡ text (get_or zs i (pos 0))
unfolding line
columns-at a b letter zs i h =
    let e : 1 + 8 * i ≡ suc (8 * i) = omega arith in
    rw (drop-append-add a (line letter zs ++ b) (1 + 8 * i), e, append_assoc (texts zs) (10 ∷ []) b) (texts-at zs i ((10 ∷ []) ++ b) h)

pub line-long : (letter : ℕ) (zs : List ℤ) → length (line letter zs) ≡ 2 + 8 * length zs
unfolding line
line-long letter zs = omega (arith, length-append (texts zs) (10 ∷ []), texts-length zs)

pub field-read : (a b : List ℕ) (letter : ℕ) (zs : List ℤ) (i : ℕ) → nat_abs (get_or zs i (pos 0)) ≤ 9999999 → i < length zs → field_of (a ++ (line letter zs ++ b)) (length a) i ≡ get_or zs i (pos 0)
unfolding field_of field_at
field-read a b letter zs i m h =
    let l : length a + (1 + 8 * i) + 8 ≤ length (a ++ (line letter zs ++ b)) = omega (arith, length-append a (line letter zs ++ b), length-append (line letter zs) b, line-long letter zs) in
    rw (le-leb (length a + (1 + 8 * i) + 8) (length (a ++ (line letter zs ++ b))) l, columns-at a b letter zs i h) (value_read (get_or zs i (pos 0)) m)

-- ---- W lines
abbrev pub widget_line : ℕ → Cell → List ℕ
widget_line n c = line 87 (pos n ∷ eight c)

pub line-there : (a b : List ℕ) (letter : ℕ) (zs : List ℤ) → is_line letter (2 + 8 * length zs) (a ++ (line letter zs ++ b)) (length a) ≡ true
unfolding is_line line
line-there a b letter zs =
    let l : length a + (2 + 8 * length zs) ≤ length (a ++ (line letter zs ++ b)) = omega (arith, length-append a (line letter zs ++ b), length-append (line letter zs) b, line-long letter zs) in
    rw (le-leb (length a + (2 + 8 * length zs)) (length (a ++ (line letter zs ++ b))) l, get_or_at a letter ((texts zs ++ (10 ∷ [])) ++ b) 0 (length a) refl) (eq-eqb letter letter refl)

-- no such line comes next
abbrev pub Ends : ℕ → ℕ → List ℕ → Type 0
Ends letter size rest = (a : List ℕ) → is_line letter size (a ++ rest) (length a) ≡ false

pub ends-other : (letter size first : ℕ) (others : List ℕ) → (first ≡ letter → ⊥) → Ends letter size (first ∷ others)
unfolding is_line
ends-other letter size first others other a =
    rw (get_or_at a first others 0 (length a) refl, ne_eqb first letter other) (go (leb (length a + size) (length (a ++ (first ∷ others)))))
  where
    go : (b : Bool) → b && false ≡ false
    go true = refl
    go false = refl

pub ends-nothing : (letter size : ℕ) → 0 < size → Ends letter size []
unfolding is_line
ends-nothing letter size h a = rw (lt-leb (length a + size) (length (a ++ [])) (omega (arith, length-append a [])))

module _ (letter size most : ℕ) (s : List ℕ) (at : ℕ) where
  pub lines_more : is_line letter size s at ≡ true → lines_from (suc most) letter size s at ≡ 1 + lines_from most letter size s (at + size)
  unfolding lines_from
  lines_more e = rw e

pub lines_none : (letter size most : ℕ) (s : List ℕ) (at : ℕ) → is_line letter size s at ≡ false → lines_from most letter size s at ≡ 0
unfolding lines_from
lines_none letter size zero s at e = refl
lines_none letter size (suc most) s at e = rw e

-- the first record is a W, or it is none
pub widget-line : (n : ℕ) (r : Record) (rs : List Record) (c : Cell) (cs : List Cell) → eqb (widget r) 1 ≡ true → widget_lines n (r ∷ rs) (c ∷ cs) ≡ widget_line n c ++ widget_lines (n + 1) rs cs
unfolding widget_lines
widget-line n r rs c cs e = rw e

pub no-widget : (n : ℕ) (r : Record) (rs : List Record) (c : Cell) (cs : List Cell) → eqb (widget r) 1 ≡ false → widget_lines n (r ∷ rs) (c ∷ cs) ≡ widget_lines (n + 1) rs (c ∷ cs)
unfolding widget_lines
no-widget n r rs c cs e = rw e

pub one_less : (r : Record) (rs : List Record) (m : ℕ) → eqb (widget r) 1 ≡ true → widgets (r ∷ rs) ≡ suc m → widgets rs ≡ m
unfolding widgets
one_less r rs m e h = omega (arith, eqb-true (widget r) 1 e)

pub none-less : (r : Record) (rs : List Record) (m : ℕ) → eqb (widget r) 1 ≡ false → widgets (r ∷ rs) ≡ m → widgets rs ≡ m
unfolding widgets
none-less r rs m e h = omega (arith, eqb-false (widget r) 1 e, at_most_one r)

pub some_left : (m : ℕ) → widgets [] ≡ suc m → ⊥
unfolding widgets
some_left m h = omega arith

-- ---- how many there are
module _ (n : ℕ) (r : Record) (rs : List Record) (c : Cell) (cs : List Cell) (a rest : List ℕ) where
  next-line : eqb (widget r) 1 ≡ true → a ++ (widget_lines n (r ∷ rs) (c ∷ cs) ++ rest) ≡ a ++ (widget_line n c ++ (widget_lines (n + 1) rs cs ++ rest))
  next-line e = rw (widget-line n r rs c cs e, append_assoc (widget_line n c) (widget_lines (n + 1) rs cs) rest)

  past-line : a ++ (widget_line n c ++ (widget_lines (n + 1) rs cs ++ rest)) ≡ (a ++ widget_line n c) ++ (widget_lines (n + 1) rs cs ++ rest)
  past-line = sym (append_assoc a (widget_line n c) (widget_lines (n + 1) rs cs ++ rest))

  line-end : length a + 74 ≡ length (a ++ widget_line n c)
  line-end = omega (arith, length-append a (widget_line n c), line-long 87 (pos n ∷ eight c))

  count-one : (most : ℕ) → eqb (widget r) 1 ≡ true → lines_from most 87 74 ((a ++ widget_line n c) ++ (widget_lines (n + 1) rs cs ++ rest)) (length (a ++ widget_line n c)) ≡ length cs
      → lines_from (suc most) 87 74 (a ++ (widget_lines n (r ∷ rs) (c ∷ cs) ++ rest)) (length a) ≡ suc (length cs)
  count-one most e h =
      rw (next-line e, lines_more 87 74 most _ (length a) (line-there a (widget_lines (n + 1) rs cs ++ rest) 87 (pos n ∷ eight c)), past-line, line-end) (omega (arith, h))

  count-step : (most : ℕ) (b : Bool) → eqb (widget r) 1 ≡ b → widgets (r ∷ rs) ≡ suc (length cs)
      → (widgets rs ≡ length cs → lines_from most 87 74 ((a ++ widget_line n c) ++ (widget_lines (n + 1) rs cs ++ rest)) (length (a ++ widget_line n c)) ≡ length cs)
      → (widgets rs ≡ suc (length cs) → lines_from (suc most) 87 74 (a ++ (widget_lines (n + 1) rs (c ∷ cs) ++ rest)) (length a) ≡ suc (length cs))
      → lines_from (suc most) 87 74 (a ++ (widget_lines n (r ∷ rs) (c ∷ cs) ++ rest)) (length a) ≡ suc (length cs)
  count-step most true e w f g = count-one most e (f (one_less r rs (length cs) e w))
  count-step most false e w f g = rw (no-widget n r rs c cs e) (g (none-less r rs (suc (length cs)) e w))

pub counted : (most n : ℕ) (rs : List Record) (cs : List Cell) (a rest : List ℕ) → widgets rs ≡ length cs → length cs ≤ most → Ends 87 74 rest
    → lines_from most 87 74 (a ++ (widget_lines n rs cs ++ rest)) (length a) ≡ length cs
counted most n rs [] a rest w m o = rw (no_lines n rs) (lines_none 87 74 most (a ++ rest) (length a) (o a))
counted most n [] (c ∷ cs) a rest w m o = absurd (some_left (length cs) w)
counted zero n (r ∷ rs) (c ∷ cs) a rest w m o = absurd (omega arith)
counted (suc most) n (r ∷ rs) (c ∷ cs) a rest w m o =
    count-step n r rs c cs a rest most (eqb (widget r) 1) refl w
    (λ (v : widgets rs ≡ length cs). counted most (n + 1) rs cs (a ++ widget_line n c) rest v (omega arith) o)
    (λ (v : widgets rs ≡ suc (length cs)). counted (suc most) (n + 1) rs (c ∷ cs) a rest v m o)

-- ---- where each stands
pub record Split (n : ℕ) (rs : List Record) (before : List Cell) (c : Cell) (after : List Cell) : Type 0 where
  pub front : List ℕ
  pub back : List ℕ
  pub number : ℕ
  pub is : widget_lines n rs (before ++ (c ∷ after)) ≡ front ++ (widget_line number c ++ back)
  pub at : length front ≡ 74 * length before

module _ (n : ℕ) (r : Record) (rs : List Record) where
  split-none : (d : Cell) (before : List Cell) (c : Cell) (after cs : List Cell) → eqb (widget r) 1 ≡ false → before ++ (c ∷ after) ≡ d ∷ cs → Split (n + 1) rs before c after → Split n (r ∷ rs) before c after
  split-none d before c after cs e l p = record {
    front = p.front;
    back = p.back;
    number = p.number;
    is = ap (λ (x : List Cell). widget_lines n (r ∷ rs) x) l ∙ no-widget n r rs d cs e ∙ ap (λ (x : List Cell). widget_lines (n + 1) rs x) (sym l) ∙ p.is;
    at = p.at;
  }

  split-here : (c : Cell) (after : List Cell) → eqb (widget r) 1 ≡ true → Split n (r ∷ rs) [] c after
  split-here c after e = record { front = []; back = widget_lines (n + 1) rs after; number = n; is = widget-line n r rs c after e; at = refl }

  split-later : (d : Cell) (before : List Cell) (c : Cell) (after : List Cell) → eqb (widget r) 1 ≡ true → Split (n + 1) rs before c after → Split n (r ∷ rs) (d ∷ before) c after
  split-later d before c after e p = record {
    front = widget_line n d ++ p.front;
    back = p.back;
    number = p.number;
    is = widget-line n r rs d (before ++ (c ∷ after)) e ∙ ap (λ (x : List ℕ). widget_line n d ++ x) p.is ∙ sym (append_assoc (widget_line n d) p.front (widget_line p.number c ++ p.back));
    at = omega (arith, length-append (widget_line n d) p.front, line-long 87 (pos n ∷ eight d), p.at);
  }

  split-first : (c : Cell) (after : List Cell) (b : Bool) → eqb (widget r) 1 ≡ b → widgets (r ∷ rs) ≡ suc (length after) → (widgets rs ≡ suc (length after) → Split (n + 1) rs [] c after) → Split n (r ∷ rs) [] c after
  split-first c after true e w g = split-here c after e
  split-first c after false e w g = split-none c [] c after after e refl (g (none-less r rs (suc (length after)) e w))

  split_step : (d : Cell) (before : List Cell) (c : Cell) (after : List Cell) (b : Bool) → eqb (widget r) 1 ≡ b → widgets (r ∷ rs) ≡ suc (length (before ++ (c ∷ after)))
      → (widgets rs ≡ length (before ++ (c ∷ after)) → Split (n + 1) rs before c after)
      → (widgets rs ≡ suc (length (before ++ (c ∷ after))) → Split (n + 1) rs (d ∷ before) c after) → Split n (r ∷ rs) (d ∷ before) c after
  split_step d before c after true e w f g = split-later d before c after e (f (one_less r rs (length (before ++ (c ∷ after))) e w))
  split_step d before c after false e w f g = split-none d (d ∷ before) c after (before ++ (c ∷ after)) e refl (g (none-less r rs (suc (length (before ++ (c ∷ after)))) e w))

pub split : (n : ℕ) (rs : List Record) (before : List Cell) (c : Cell) (after : List Cell) → widgets rs ≡ length (before ++ (c ∷ after)) → Split n rs before c after
split n [] [] c after w = absurd (some_left (length after) w)
split n [] (d ∷ before) c after w = absurd (some_left (length (before ++ (c ∷ after))) w)
split n (r ∷ rs) [] c after w = split-first n r rs c after (eqb (widget r) 1) refl w (λ (v : widgets rs ≡ suc (length after)). split (n + 1) rs [] c after v)
split n (r ∷ rs) (d ∷ before) c after w =
    split_step n r rs d before c after (eqb (widget r) 1) refl w
    (λ (v : widgets rs ≡ length (before ++ (c ∷ after))). split (n + 1) rs before c after v)
    (λ (v : widgets rs ≡ suc (length (before ++ (c ∷ after)))). split (n + 1) rs (d ∷ before) c after v)

-- ---- C and D lines
abbrev entry_line : ℕ → ℕ → Float → List ℕ
entry_line letter i x = line letter (pos i ∷ ticks 5 x ∷ [])

pub entries-counted : (letter most i : ℕ) (xs : List Float) (a rest : List ℕ) → length xs ≤ most → Ends letter 18 rest
    → lines_from most letter 18 (a ++ (entry_lines letter i xs ++ rest)) (length a) ≡ length xs
unfolding entry_lines
entries-counted letter most i [] a rest h e = lines_none letter 18 most (a ++ rest) (length a) (e a)
entries-counted letter zero i (x ∷ xs) a rest h e = absurd (omega arith)
entries-counted letter (suc most) i (x ∷ xs) a rest h e =
    let l : length a + 18 ≡ length (a ++ entry_line letter i x) = omega (arith, length-append a (entry_line letter i x), line-long letter (pos i ∷ ticks 5 x ∷ [])) in
    let t : lines_from most letter 18 ((a ++ entry_line letter i x) ++ (entry_lines letter (i + 1) xs ++ rest)) (length (a ++ entry_line letter i x)) ≡ length xs = entries-counted letter most (i + 1) xs (a ++ entry_line letter i x) rest (omega arith) e in
    rw (append_assoc (entry_line letter i x) (entry_lines letter (i + 1) xs) rest, lines_more letter 18 most _ (length a) (line-there a (entry_lines letter (i + 1) xs ++ rest) letter (pos i ∷ ticks 5 x ∷ [])), sym (append_assoc a (entry_line letter i x) (entry_lines letter (i + 1) xs ++ rest)), l) (omega (arith, t))

pub entries-long : (letter i : ℕ) (xs : List Float) → length (entry_lines letter i xs) ≡ 18 * length xs
unfolding entry_lines
entries-long letter i [] = refl
entries-long letter i (x ∷ xs) = omega (arith, length-append (entry_line letter i x) (entry_lines letter (i + 1) xs), line-long letter (pos i ∷ ticks 5 x ∷ []), entries-long letter (i + 1) xs)

rows_end : (xs : List Float) → Ends 67 18 (entry_lines 68 0 xs)
unfolding entry_lines line
rows_end [] = ends-nothing 67 18 (omega arith)
rows_end (x ∷ xs) = ends-other 67 18 68 _ (λ (e : ◌≡◌ {A = ℕ} 68 67). omega (arith, e))

module _ (a : List ℕ) (ws hs : List Float) where
  pub columns-counted : length ws ≤ 32 → lines_from 32 67 18 (a ++ (entry_lines 67 0 ws ++ entry_lines 68 0 hs)) (length a) ≡ length ws
  columns-counted h = entries-counted 67 32 0 ws a (entry_lines 68 0 hs) h (rows_end hs)

  pub rows-counted : length hs ≤ 128 → lines_from 128 68 18 (a ++ (entry_lines 67 0 ws ++ entry_lines 68 0 hs)) (length a + 18 * length ws) ≡ length hs
  rows-counted h =
      let l : length a + 18 * length ws ≡ length (a ++ entry_lines 67 0 ws) = omega (arith, length-append a (entry_lines 67 0 ws), entries-long 67 0 ws) in
      let t : a ++ (entry_lines 67 0 ws ++ entry_lines 68 0 hs) ≡ (a ++ entry_lines 67 0 ws) ++ (entry_lines 68 0 hs ++ []) = sym (append_assoc a (entry_lines 67 0 ws) (entry_lines 68 0 hs)) ∙ ap (λ (x : List ℕ). (a ++ entry_lines 67 0 ws) ++ x) (sym (append-nil (entry_lines 68 0 hs))) in
      rw (t, l) (entries-counted 68 128 0 hs (a ++ entry_lines 67 0 ws) [] h (ends-nothing 68 18 (omega arith)))

pub none-counted : (letter most : ℕ) (a : List ℕ) → lines_from most letter 18 (a ++ []) (length a) ≡ 0
none-counted letter most a = lines_none letter 18 most (a ++ []) (length a) (ends-nothing letter 18 (omega arith) a)
