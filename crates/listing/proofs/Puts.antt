-- Lines one after the other, as the code writes them: a turn of each loop, and what each return answers. Assumes nothing.
use Rattle.std.proofs.Common.{ℕ, zero, suc, ◌+◌, ◌-◌, ◌≤◌, ◌<◌, ◌≡◌, refl, ap, sym, ◌∙◌, Bool, true, false, cond, ◌&&◌, true≢false, List, [], ◌∷◌, arith, add-one, add-zero, leb-true, eq-eqb, ne_eqb, leb, eqb, ℤ, pos, length, get_or, drop, length-drop, drop_of_length-le, get_or-drop, drop-cons, Float}
use Rattle.std.proofs.Math.Seq.{sets, length-sets}
use Rattle.std.specs.Float.{nan}
use Rattle.emath.specs.Steps.{Edge}
use Rattle.records.specs.Parts.{letter}
use Rattle.records.specs.Records.{rest, next_at}
use Rattle.records.specs.Headings.{heading_in}
use Rattle.records.specs.Sheets.{steps_left}
use Rattle.records.proofs.Places.{next-is-rest}
use Rattle.text.specs.Lines.{line, have_texts, line_at}
use Rattle.grid.specs.Memories.{widths, heights}
use Rattle.sheet.specs.Ticks.{ticks, in_ticks}
use Rattle.sheet.specs.Slices.{edges}
use Rattle.sheet.specs.Slices.{Laid}
use Rattle.sheet.specs.Slices.{Accepted, Refused}
use Rattle.sheet.specs.Slices.{Passed}
use Rattle.listing.specs.Implementation.Pens.{put, Writes}
use Rattle.listing.specs.declared.lines.Pen.{Pen}
use Rattle.listing.proofs.Pens.{after, nothing}
use Rattle.listing.specs.Implementation.ListWriter.{Put, bytes, put_line, mark, places_of, put_widget, put_widgets, put_entries, put_memory, put_accepted, put_passed, Whole, none, more}

-- ---- put_line
module _ (out : List ℕ) (at letter : ℕ) (zs : List ℤ) (o : List ℕ) where
  pub line-fits : (true, o) ≡ line_at out at letter zs → at + bytes zs ≤ length out
  unfolding line_at
  line-fits e = go (leb (at + bytes zs) (length out)) (have_texts zs) refl e
    where
      go : (a b : Bool) → leb (at + bytes zs) (length out) ≡ a → ◌≡◌ {A = Bool × List ℕ} (true, o) (cond (a && b) (true, sets out at (line letter zs)) (false, out)) → at + bytes zs ≤ length out
      go true b t e = leb-true (at + bytes zs) (length out) t
      go false b t e = absurd (true≢false (ap (λ (p : Bool × List ℕ). p.0) e))

  pub line-put : (b : Bool) → (b, o) ≡ line_at out at letter zs → ◌≡◌ {A = Put} (record { at = cond b (at + bytes zs) at; out = o }) (put_line letter zs (record { at = at; out = out }))
  unfolding line_at put_line
  line-put b e = go (leb (at + bytes zs) (length out) && have_texts zs) e
    where
      go : (t : Bool) → ◌≡◌ {A = Bool × List ℕ} (b, o) (cond t (true, sets out at (line letter zs)) (false, out))
          → ◌≡◌ {A = Put} (record { at = cond b (at + bytes zs) at; out = o }) (cond t (record { at = at + bytes zs; out = sets out at (line letter zs) }) (record { at = at; out = out }))
      go true e = rw (ap (λ (p : Bool × List ℕ). p.0) e, ap (λ (p : Bool × List ℕ). p.1) e)
      go false e = rw (ap (λ (p : Bool × List ℕ). p.0) e, ap (λ (p : Bool × List ℕ). p.1) e)

-- ---- a W, and any other record
mark-at : (s : List ℕ) (at : ℕ) → mark (drop at s) ≡ cond (eqb (get_or s at 0) 87) 1 0
unfolding mark
mark-at s at = ap (λ (b : ℕ). cond (eqb b 87) 1 0) (get_or-drop at s 0 0 ∙ ap (λ (i : ℕ). get_or s i 0) (add-zero at))

marked : (s : List ℕ) (at : ℕ) → get_or s at 0 ≡ 87 → 1 ≡ mark (drop at s)
marked s at e = rw (mark-at s at, eq-eqb (get_or s at 0) 87 e)

not-marked : (s : List ℕ) (at : ℕ) → (get_or s at 0 ≡ 87 → ⊥) → 0 ≡ mark (drop at s)
not-marked s at e = rw (mark-at s at, ne_eqb (get_or s at 0) 87 e)

-- ---- put_widgets
front : (left n k : ℕ) (u : List ℕ) (cells : List ℤ) (p : Put) → 0 < left → 0 < length u
    → put_widgets left n k u cells p ≡ put_widgets (left - 1) (n + 1) (k + mark u) (rest u) cells (put_widget (mark u) n k cells p)
unfolding put_widgets
front zero n k u cells p h l = absurd (omega arith)
front (suc left) n k [] cells p h l = absurd (omega arith)
front (suc left) n k (b ∷ u) cells p h l = let e : suc left - 1 ≡ left = omega arith in rw e

ended : (left n k : ℕ) (cells : List ℤ) (p : Put) → put_widgets left n k [] cells p ≡ p
unfolding put_widgets
ended zero n k cells p = refl
ended (suc left) n k cells p = refl

full : (left n k : ℕ) (u : List ℕ) (cells : List ℤ) (p : Put) → left ≤ 0 → put_widgets left n k u cells p ≡ p
unfolding put_widgets
full zero n k u cells p h = refl
full (suc left) n k u cells p h = absurd (omega arith)

module _ (text : List ℕ) (cells : List ℤ) (left n k at : ℕ) where
  pub widgets-end : {p : Pen} → length text ≤ at → Writes (put_widgets left n k (drop at text) cells) p p
  widgets-end {p} h = record { same_slice = refl; written = sym (ap (λ (u : List ℕ). put_widgets left n k u cells (put p)) (drop_of_length-le text h) ∙ ended left n k cells (put p)) }

  pub widgets-full : {p : Pen} → left ≤ 0 → Writes (put_widgets left n k (drop at text) cells) p p
  widgets-full {p} h = record { same_slice = refl; written = sym (full left n k (drop at text) cells (put p) h) }

  turn : 0 < left → at < length text → (here : ℕ) → here ≡ mark (drop at text) → (p q : Put) → q ≡ put_widget here n k cells p
      → put_widgets (left - 1) (n + 1) (k + here) (drop (next_at text at) text) cells q ≡ put_widgets left n k (drop at text) cells p
  turn m l here e p q f =
      let s : 0 < length (drop at text) = omega (arith, length-drop at text) in
      rw (f, e, next-is-rest text at) (sym (front left n k (drop at text) cells p m s))

  -- a W has its line
  pub widgets-line : {p q r : Pen} → 0 < left → at < length text → get_or text at 0 ≡ 87 → Writes (put_line 87 (pos n ∷ places_of cells k)) p q
      → Writes (put_widgets (left - 1) (n + 1) (k + 1) (drop (next_at text at) text) cells) q r → Writes (put_widgets left n k (drop at text) cells) p r
  unfolding put_widget
  widgets-line {p} {q} m l e h i = record {
    same_slice = i.same_slice ∙ h.same_slice;
    written = i.written ∙ turn m l 1 (marked text at e) (put p) (put q) h.written;
  }

  -- any other record has none
  pub widgets-none : {p r : Pen} → 0 < left → at < length text → (get_or text at 0 ≡ 87 → ⊥)
      → Writes (put_widgets (left - 1) (n + 1) k (drop (next_at text at) text) cells) p r → Writes (put_widgets left n k (drop at text) cells) p r
  unfolding put_widget
  widgets-none {p} m l e i = record {
    same_slice = i.same_slice;
    written = i.written ∙ (rw add-zero at (turn m l 0 (not-marked text at e) (put p) (put p) refl));
  }

-- ---- put_entries
module _ (letter : ℕ) (xs : List Float) (i : ℕ) where
  from : i < length xs → drop i xs ≡ get_or xs i nan ∷ drop (i + 1) xs
  from h = drop-cons xs i nan h ∙ rw add-one

  pub entries-turn : {p q r : Pen} → i < length xs → Writes (put_line letter (pos i ∷ ticks 5 (get_or xs i nan) ∷ [])) p q
      → Writes (put_entries letter (i + 1) (drop (i + 1) xs)) q r → Writes (put_entries letter i (drop i xs)) p r
  unfolding put_entries
  entries-turn h v w = rw (from h) (after v w)

  pub entries-end : {p : Pen} → length xs ≤ i → Writes (put_entries letter i (drop i xs)) p p
  unfolding put_entries
  entries-end {p} h = rw (drop_of_length-le xs h) (nothing p)

pub whole-at : (xs : List Float) (i : ℕ) → Whole xs → i < length xs → Edge 5 (get_or xs i nan)
whole-at xs i none h = absurd (omega arith)
whole-at xs zero (more e w) h = e
whole-at xs (suc i) (more {xs = ys} e w) h = whole-at ys i w (omega arith)

-- ---- what is written stays within the array
abbrev pub Within : Put → ℕ → Type 0
Within p n = (p.at ≤ n) × (length p.out ≡ n)

module _ (n : ℕ) where
  pub line-within : (letter : ℕ) (zs : List ℤ) (p : Put) → Within p n → Within (put_line letter zs p) n
  unfolding put_line
  line-within letter zs p (a, l) = go (leb (p.at + bytes zs) (length p.out)) (have_texts zs) refl
    where
      go : (x y : Bool) → leb (p.at + bytes zs) (length p.out) ≡ x
          → Within (cond (x && y) (record { at = p.at + bytes zs; out = sets p.out p.at (line letter zs) }) p) n
      go true true e = (omega (arith, leb-true (p.at + bytes zs) (length p.out) e, l), length-sets p.out p.at (line letter zs) ∙ l)
      go true false e = (a, l)
      go false y e = (a, l)

  widget-within : (here k i : ℕ) (cells : List ℤ) (p : Put) → Within p n → Within (put_widget here k i cells p) n
  unfolding put_widget
  widget-within here k i cells p w = go (eqb here 0)
    where
      go : (b : Bool) → Within (cond b p (put_line 87 (pos k ∷ places_of cells i) p)) n
      go true = w
      go false = line-within 87 (pos k ∷ places_of cells i) p w

  widgets-within : (left k i : ℕ) (s : List ℕ) (cells : List ℤ) (p : Put) → Within p n → Within (put_widgets left k i s cells p) n
  unfolding put_widgets
  widgets-within zero k i s cells p w = w
  widgets-within (suc left) k i [] cells p w = w
  widgets-within (suc left) k i (b ∷ s) cells p w = widgets-within left (k + 1) (i + mark (b ∷ s)) (rest (b ∷ s)) cells (put_widget (mark (b ∷ s)) k i cells p) (widget-within (mark (b ∷ s)) k i cells p w)

  entries-within : (letter i : ℕ) (xs : List Float) (p : Put) → Within p n → Within (put_entries letter i xs p) n
  unfolding put_entries
  entries-within letter i [] p w = w
  entries-within letter i (x ∷ xs) p w = entries-within letter (i + 1) xs (put_line letter (pos i ∷ ticks 5 x ∷ []) p) (line-within letter (pos i ∷ ticks 5 x ∷ []) p w)

  pub passed-within : (l : Laid) (text : List ℕ) (cells : List ℤ) (q : Passed) (p : Put) → Within p n → Within (put_passed l text cells q p) n
  unfolding put_passed put_accepted put_memory
  passed-within Accepted text cells q p w =
      entries-within 68 0 (heights q.memory) _ (entries-within 67 0 (widths q.memory) _ (line-within 80 (edges (in_ticks 5 q.plate)) _ (widgets-within (steps_left text) ((heading_in text).records + 1) 0 (drop (heading_in text).next text) cells p w)))
  passed-within (Refused number at) text cells q p w = line-within 88 (pos number ∷ pos at ∷ []) p w
