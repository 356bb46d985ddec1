-- What the code writes, line after line, is the list, where the array has room and each number a text. Assumes nothing.
use Rattle.std.proofs.Common.{ℕ, zero, suc, ◌+◌, ◌*◌, ◌≤◌, ◌<◌, ◌≡◌, refl, ap, sym, ◌∙◌, Bool, true, false, cond, List, [], ◌∷◌, ◌++◌, append_assoc, arith, add-zero, le-leb, eqb, ℤ, pos, length, get_or, take, drop, length-append, length-take, get_or-drop, drop-drop, Float}
use Rattle.std.proofs.Math.Seq.{sets, length-sets}
use Rattle.emath.specs.declared.Rect.{Rect}
use Rattle.region.specs.Steps.{WholeRect}
use Rattle.grid.specs.Memories.{widths, heights}
use Rattle.grid.specs.declared.Memory.{Memory}
use Rattle.text.specs.Lines.{texts, line, have_texts}
use Rattle.text.proofs.LineTexts.{texts-length, sets-append}
use Rattle.records.specs.Parts.{letter}
use Rattle.records.specs.declared.SizeUnit.{SizeUnit}
use Rattle.records.specs.Records.{record_of, rest}
use Rattle.records.specs.Headings.{heading_in}
use Rattle.records.specs.Sheets.{records_from, steps_left, records, wrong_from, widget, widgets}
use Rattle.records.proofs.Reached.{is_step}
use Rattle.records.specs.Records.{Record}
use Rattle.std.specs.Prelude.{None, Some}
use Rattle.sheet.specs.Pass.{Cell}
use Rattle.pass_laws.specs.WholeCells.{WholeCells, more}
use Rattle.sheet.specs.Ticks.{ticks, in_ticks}
use Rattle.sheet.specs.Slices.{edges, eight, written}
use Rattle.listing.specs.Lists.{widget_lines, entry_lines, memory_lines, refusal_line}
use Rattle.listing.specs.Implementation.ListWriter as putting
use Rattle.listing.specs.Implementation.ListWriter.{Put, bytes, put_line, places_of, mark, put_widget, put_widgets, put_entries, put_memory, put_accepted, Whole, WholeMemory}
use Rattle.listing.proofs.Letters.{mark-is}
use Rattle.listing.proofs.Texts.{edges-texts, none_left, widget-texts, entry-texts, refusal-texts}

-- these bytes written from the place where the next line begins
abbrev pub after : Put → List ℕ → Put
after p l = record { at = p.at + length l; out = sets p.out p.at l }

after_none : (p : Put) → p ≡ after p []
after_none p = rw (add-zero p.at)

after_both : (p : Put) (a b : List ℕ) → after (after p a) b ≡ after p (a ++ b)
after_both p a b =
    let e : p.at + length a + length b ≡ p.at + length (a ++ b) = omega (arith, length-append a b) in
    rw (e, sym (sets-append a b p.out p.at))

room_after : (p : Put) (a : List ℕ) → length (after p a).out ≡ length p.out
room_after p a = length-sets p.out p.at a

line-length : (letter : ℕ) (zs : List ℤ) → length (line letter zs) ≡ bytes zs
unfolding line
line-length letter zs = omega (arith, length-append (texts zs) (10 ∷ []), texts-length zs)

-- ---- a line
pub put_one : (letter : ℕ) (zs : List ℤ) (p : Put) → p.at + bytes zs ≤ length p.out → have_texts zs ≡ true → put_line letter zs p ≡ after p (line letter zs)
unfolding put_line
put_one letter zs p r t = rw (le-leb (p.at + bytes zs) (length p.out) r, t, line-length letter zs)

pub put-refusal : (number at : ℕ) (p : Put) → number < 256 → at ≤ 600 → p.at + 18 ≤ length p.out → put_line 88 (pos number ∷ pos at ∷ []) p ≡ after p (refusal_line number at)
unfolding refusal_line
put-refusal number at p n l r = put_one 88 (pos number ∷ pos at ∷ []) p (omega (arith, r)) (refusal-texts number at (omega (arith, n)) (omega (arith, l)))

-- ---- C and D
put_entries_lem : (letter i : ℕ) (xs : List Float) (p : Put) → Whole xs → i + length xs ≤ 600 → p.at + 18 * length xs ≤ length p.out → put_entries letter i xs p ≡ after p (entry_lines letter i xs)
unfolding put_entries entry_lines
put_entries_lem letter i [] p w few room = after_none p
put_entries_lem letter i (x ∷ xs) p (putting.more e w) few room =
    let zs = pos i ∷ ticks 5 x ∷ [] in
    let one = put_one letter zs p (omega (arith, room)) (entry-texts i x (omega (arith, few)) e) in
    let ll = line-length letter zs in
    let others = put_entries_lem letter (i + 1) xs (after p (line letter zs)) w (omega (arith, few)) (omega (arith, room, room_after p (line letter zs), ll)) in
    ap (λ (q : Put). put_entries letter (i + 1) xs q) one ∙ others ∙ after_both p (line letter zs) (entry_lines letter (i + 1) xs)

entries-length : (letter i : ℕ) (xs : List Float) → length (entry_lines letter i xs) ≡ 18 * length xs
unfolding entry_lines
entries-length letter i [] = refl
entries-length letter i (x ∷ xs) =
    let zs = pos i ∷ ticks 5 x ∷ [] in
    omega (arith, length-append (line letter zs) (entry_lines letter (i + 1) xs), line-length letter zs, entries-length letter (i + 1) xs)

pub put-memory : (m : Memory) (p : Put) → WholeMemory m → p.at + 2880 ≤ length p.out → put_memory m p ≡ after p (memory_lines m)
unfolding put_memory memory_lines
put-memory m p w room =
    let a = entry_lines 67 0 (widths m) in
    let c = at_most m.cols m.col_widths in
    let r = at_most m.rows m.row_heights in
    let n = entries-length 67 0 (widths m) in
    ap (λ (q : Put). put_entries 68 0 (heights m) q) (put_entries_lem 67 0 (widths m) p w.widths (omega (arith, c, w.cols)) (omega (arith, c, room, w.cols)))
    ∙ put_entries_lem 68 0 (heights m) (after p a) w.heights (omega (arith, r, w.rows)) (omega (arith, r, room, w.rows, w.cols, c, n, room_after p a))
    ∙ after_both p a (entry_lines 68 0 (heights m))
  where
    at_most : (n : ℕ) (xs : List Float) → length (take n xs) ≤ n
    at_most n xs = simp length-take (omega arith)

-- ---- W
-- the eight places of the next W
places : (cells : List ℤ) (k : ℕ) (c : Cell) (xs : List ℤ) → drop (8 * k) cells ≡ eight c ++ xs → places_of cells k ≡ eight c
places cells k c xs e =
    let f : (i : ℕ) → get_or cells (8 * k + i) (pos 0) ≡ get_or (eight c ++ xs) i (pos 0) = λ i. (sym (get_or-drop (8 * k) cells i (pos 0)) ∙ ap (λ (l : List ℤ). get_or l i (pos 0)) e) in
    let z : get_or cells (8 * k) (pos 0) ≡ get_or (eight c ++ xs) 0 (pos 0) = ap (λ (i : ℕ). get_or cells i (pos 0)) (sym (add-zero (8 * k))) ∙ f 0 in
    rw (z, f 1, f 2, f 3, f 4, f 5, f 6, f 7)

next-places : (cells : List ℤ) (k : ℕ) (c : Cell) (xs : List ℤ) → drop (8 * k) cells ≡ eight c ++ xs → drop (8 * (k + 1)) cells ≡ xs
next-places cells k c xs e =
    let n : 8 * (k + 1) ≡ 8 * k + 8 = omega arith in
    ap (λ (i : ℕ). drop i cells) n ∙ sym (drop-drop 8 (8 * k) cells) ∙ ap (λ (l : List ℤ). drop 8 l) e

-- records without a fault, and a cell for each W among them
pub record Ready (v : SizeUnit) (left n k : ℕ) (u : List ℕ) (cells : List ℤ) (p : Put) (cs : List Cell) : Type 0 where
  pub well : wrong_from n (records_from v left u) ≡ 0
  pub from : 0 < n
  pub few : n + left ≤ 600
  pub others : List ℤ
  pub there : drop (8 * k) cells ≡ written cs ++ others
  pub whole : WholeCells 5 cs
  pub all : widgets (records_from v left u) ≡ length cs
  pub room : p.at + 74 * length cs ≤ length p.out

pub no_lines : (n : ℕ) (rs : List Record) → widget_lines n rs [] ≡ []
unfolding widget_lines
no_lines n [] = refl
no_lines n (r ∷ rs) = refl

here-step : (n : ℕ) (r : Record) (rs : List Record) → 0 < n → wrong_from n (r ∷ rs) ≡ 0 → (is_step r ≡ true) × (wrong_from (n + 1) rs ≡ 0)
unfolding wrong_from is_step
here-step n (Some st) rs f h = (refl, h)
here-step n None rs f h = absurd (omega (arith, h))

data Few : ℕ → Type 0 where
  none_here : Few 0
  one-here : Few 1

few-marks : (s : List ℕ) → Few (mark s)
unfolding mark
few-marks s = go (eqb (letter s) 87)
  where
    go : (b : Bool) → Few (cond b 1 0)
    go true = one-here
    go false = none_here

lines-length : (n : ℕ) (rs : List Record) (cs : List Cell) → length (widget_lines n rs cs) ≤ 74 * length cs
unfolding widget_lines
lines-length n [] cs = omega arith
lines-length n (r ∷ rs) [] = omega arith
lines-length n (r ∷ rs) (c ∷ cs) = go (eqb (widget r) 1) (lines-length (n + 1) rs cs) (lines-length (n + 1) rs (c ∷ cs))
  where
    go : (b : Bool) → length (widget_lines (n + 1) rs cs) ≤ 74 * length cs → length (widget_lines (n + 1) rs (c ∷ cs)) ≤ 74 * length (c ∷ cs)
        → length (cond b (line 87 (pos n ∷ eight c) ++ widget_lines (n + 1) rs cs) (widget_lines (n + 1) rs (c ∷ cs))) ≤ 74 * length (c ∷ cs)
    go true x y = omega (arith, length-append (line 87 (pos n ∷ eight c)) (widget_lines (n + 1) rs cs), line-length 87 (pos n ∷ eight c), x)
    go false x y = y

-- the first record's line, where it is a W, and the others'
one_line : (n : ℕ) (r : Record) (rs : List Record) (c : Cell) (cs : List Cell) → widget r ≡ 1 → widget_lines n (r ∷ rs) (c ∷ cs) ≡ line 87 (pos n ∷ eight c) ++ widget_lines (n + 1) rs cs
unfolding widget_lines
one_line n r rs c cs e = rw e

no_line : (n : ℕ) (r : Record) (rs : List Record) (cs : List Cell) → widget r ≡ 0 → widget_lines n (r ∷ rs) cs ≡ widget_lines (n + 1) rs cs
unfolding widget_lines
no_line n r rs [] e = sym (no_lines (n + 1) rs)
no_line n r rs (c ∷ cs) e = rw e

taken-apart : {c : Cell} {cs : List Cell} → WholeCells 5 (c ∷ cs) → WholeRect 5 c.frame × WholeRect 5 c.widget × WholeCells 5 cs
taken-apart (more f w t) = (f, w, t)

count : (r : Record) (rs : List Record) → widgets (r ∷ rs) ≡ widget r + widgets rs
unfolding widgets
count r rs = refl

first-eight : (c : Cell) (cs : List Cell) (others : List ℤ) → written (c ∷ cs) ++ others ≡ eight c ++ (written cs ++ others)
unfolding written
first-eight c cs others = refl

abbrev Law : SizeUnit → ℕ → Type 0
Law v left = (n k : ℕ) (u : List ℕ) (cells : List ℤ) (p : Put) (cs : List Cell) → Ready v left n k u cells p cs → put_widgets left n k u cells p ≡ after p (widget_lines n (records_from v left u) cs)

-- one record more, with m W
module _ (v : SizeUnit) (left n k : ℕ) (r : Record) (u : List ℕ) (cells : List ℤ) (p : Put) (ih : Law v left) where
  abbrev rs : List Record
  rs = records_from v left u

  record Turn (cs : List Cell) : Type 0 where
    pub well : wrong_from (n + 1) rs ≡ 0
    pub few : n + suc left ≤ 600
    pub others : List ℤ
    pub there : drop (8 * k) cells ≡ written cs ++ others
    pub whole : WholeCells 5 cs
    pub all : widget r + widgets rs ≡ length cs
    pub room : p.at + 74 * length cs ≤ length p.out

  turn : (m : ℕ) → Few m → widget r ≡ m → (cs : List Cell) → Turn cs → put_widgets left (n + 1) (k + m) u cells (put_widget m n k cells p) ≡ after p (widget_lines n (r ∷ rs) cs)
  unfolding put_widget
  turn m none_here e cs h =
      ih (n + 1) (k + 0) u cells p cs
      (record { well = h.well; from = omega arith; few = omega (arith, h.few); others = h.others; there = ap (λ (j : ℕ). drop (8 * j) cells) (add-zero k) ∙ h.there; whole = h.whole; all = omega (arith, h.all, e); room = h.room })
      ∙ ap (λ (l : List ℕ). after p l) (sym (no_line n r rs cs e))
  turn m one-here e [] h = absurd (omega (arith, h.all, e))
  turn m one-here e (c ∷ cs) h =
      let d = h.there ∙ first-eight c cs h.others in
      let whole = taken-apart h.whole in
      let f = h.few in
      let l = line 87 (pos n ∷ eight c) in
      let one = ap (λ (zs : List ℤ). put_line 87 (pos n ∷ zs) p) (places cells k c _ d) ∙ put_one 87 (pos n ∷ eight c) p (omega (arith, h.room)) (widget-texts n c (omega (arith, f)) whole.0 whole.1) in
      ap (λ (q : Put). put_widgets left (n + 1) (k + 1) u cells q) one ∙ ih (n + 1) (k + 1) u cells (after p l) cs
      (record { well = h.well; from = omega arith; few = omega (arith, f); others = h.others; there = next-places cells k c _ d; whole = whole.2; all = omega (arith, h.all, e); room = omega (arith, h.room, room_after p l, line-length 87 (pos n ∷ eight c)) })
      ∙ after_both p l (widget_lines (n + 1) rs cs) ∙ ap (λ (x : List ℕ). after p x) (sym (one_line n r rs c cs e))

pub put-widgets : (v : SizeUnit) (left : ℕ) → Law v left
unfolding put_widgets records_from widget_lines
put-widgets v zero n k u cells p cs h = after_none p
put-widgets v (suc left) n k [] cells p cs h = after_none p
put-widgets v (suc left) n k (b ∷ s) cells p cs h =
    let r = record_of v (b ∷ s) in
    let w = here-step n r (records_from v left (rest (b ∷ s))) h.from h.well in
    turn v left n k r (rest (b ∷ s)) cells p (put-widgets v left) (mark (b ∷ s)) (few-marks (b ∷ s)) (sym (mark-is v (b ∷ s) w.0)) cs
    (record { well = w.1; few = h.few; others = h.others; there = h.there; whole = h.whole; all = sym (count r (records_from v left (rest (b ∷ s)))) ∙ h.all; room = h.room })

-- ---- an accepted pass
pub put-accepted : (text : List ℕ) (cells : List ℤ) (plate : Rect) (m : Memory) (p : Put) (cs : List Cell) → Ready (heading_in text).unit (steps_left text) ((heading_in text).records + 1) 0 (drop (heading_in text).next text) cells p cs → WholeRect 5 plate → WholeMemory m
    → p.at + 40802 ≤ length p.out → length cs ≤ 512
    → put_accepted text cells plate m p ≡ after p (widget_lines ((heading_in text).records + 1) (records text) cs ++ (line 80 (edges (in_ticks 5 plate)) ++ memory_lines m))
unfolding put_accepted
put-accepted text cells plate m p cs h w v room few =
    let a = widget_lines ((heading_in text).records + 1) (records text) cs in
    let zs = edges (in_ticks 5 plate) in
    let n : length a ≤ 74 * length cs = lines-length ((heading_in text).records + 1) (records text) cs in
    let one = put_one 80 zs (after p a) (omega (arith, room, few, n, room_after p a)) (edges-texts plate [] w none_left) in
    let r = line-length 80 zs in
    ap (λ (q : Put). put_memory m (put_line 80 zs q)) (put-widgets (heading_in text).unit (steps_left text) ((heading_in text).records + 1) 0 (drop (heading_in text).next text) cells p cs h) ∙ ap (λ (q : Put). put_memory m q) one
    ∙ put-memory m (after (after p a) (line 80 zs)) v (omega (arith, room, few, n, r, room_after p a, room_after (after p a) (line 80 zs)))
    ∙ ap (λ (q : Put). after q (memory_lines m)) (after_both p a (line 80 zs)) ∙ after_both p (a ++ line 80 zs) (memory_lines m)
    ∙ ap (λ (l : List ℕ). after p l) (append_assoc a (line 80 zs) (memory_lines m))
