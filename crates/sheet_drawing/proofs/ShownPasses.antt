-- RULES 7.10: of every text that is accepted, the list that is drawn has the numbers of the pass that is printed (`Shows`). Assumes
-- nothing.
use Prim.Native.Nat.{ℕ, zero, suc, ◌+◌, ◌*◌, ◌≤◌, ◌<◌}
use mathlib.Core.Path.{◌≡◌, refl, ap, sym, ◌∙◌, subst}
use mathlib.Core.Bool.{Bool, true, false, cond, ◌&&◌, true≢false}
use mathlib.Core.List.{List, [], ◌∷◌, ◌++◌, append_assoc}
use native.Mathlib.Omega.{arith}
use borrow.Author.Tests.{eq-eqb, eqb-true}
use lib.Dec.{eqb}
use lib.IntN.{ℤ, pos, nat_abs}
use lib.Ieee.{Float}
use lib.ListN.{length, get_or, take, length-append, length-take}
use Rattle.emath.specs.Steps.{Edge}
use Rattle.emath.specs.declared.Rect.{Rect}
use Rattle.region.specs.Steps.{WholeRect}
use Rattle.grid.specs.Memories.{empty_memory, widths, heights}
use Rattle.grid.specs.declared.Memory.{Memory}
use Rattle.text.specs.Lines.{texts, line}
use Rattle.records.specs.Headings.{heading_in}
use Rattle.records.specs.Sheets.{records, widget, widgets, checked}
use Rattle.records.specs.Records.{Record}
use Rattle.records.specs.Sheets as checked-of
use Rattle.records.proofs.Checks.{clear}
use Rattle.sheet.specs.Pass.{Cell, Outcome, pass}
use Rattle.sheet.specs.Passes.{passes}
use Rattle.pass_laws.specs.WholeCells.{WholeCells, more}
use Rattle.sheet.specs.Ticks.{ticks, in_ticks}
use Rattle.sheet.specs.Slices.{edges, eight}
use Rattle.sheet.specs.Texts.{sheet_in}
use Rattle.sheet.proofs.Shown.{pass_all}
use Rattle.sheet.proofs.Slices.{pass-few}
use Rattle.pass_laws.proofs.TextTicks.{text-whole}
use Rattle.pass_laws.proofs.WholeEdges.{whole-pass}
use Rattle.listing.specs.Lists.{widget_lines, printed, accepted_lines, outcome_lines, memory_lines, answered, list_of}
use Rattle.listing.specs.Implementation.ListWriter.{WholeMemory}
use Rattle.listing.proofs.Memories.{first-whole, second-whole}
use Rattle.listing.proofs.Places.{all-controls}
use Rattle.listing.proofs.Texts.{ticks-are}
use Rattle.drawing.specs.Pieces.{field_of}
use Rattle.sheet_drawing.specs.Shown.{Shows}
use Rattle.drawing.specs.Pages.{columns_of, rows_of}
use Rattle.listing.proofs.Written.{no_lines}
use Rattle.sheet_drawing.proofs.OfPasses.{Ends, ends-other, columns-counted, rows-counted, none-counted, counted, Split, split, widget_line, field-read, widget-line, no-widget, one_less, none-less, some_left, line-long}

-- ---- whole ticks are small enough to be read
tick-small : (x : Float) → Edge 5 x → nat_abs (ticks 5 x) ≤ 9999999
tick-small x e = let f : nat_abs e.steps ≤ 2097152 = e.few in rw (ticks-are x e) (omega arith)

edges-small : (r : Rect) → WholeRect 5 r → (zs : List ℤ) (i : ℕ) → i < 4 → nat_abs (get_or (edges (in_ticks 5 r) ++ zs) i (pos 0)) ≤ 9999999
edges-small r w zs zero h = tick-small r.left w.left
edges-small r w zs (suc zero) h = tick-small r.top w.top
edges-small r w zs (suc (suc zero)) h = tick-small r.right w.right
edges-small r w zs (suc (suc (suc zero))) h = tick-small r.bottom w.bottom
edges-small r w zs (suc (suc (suc (suc i)))) h = absurd (omega arith)

eight-small : (c : Cell) → WholeRect 5 c.frame → WholeRect 5 c.widget → (i : ℕ) → i < 8 → nat_abs (get_or (eight c) i (pos 0)) ≤ 9999999
eight-small c f w zero h = tick-small c.frame.left f.left
eight-small c f w (suc zero) h = tick-small c.frame.top f.top
eight-small c f w (suc (suc zero)) h = tick-small c.frame.right f.right
eight-small c f w (suc (suc (suc zero))) h = tick-small c.frame.bottom f.bottom
eight-small c f w (suc (suc (suc (suc i)))) h = edges-small c.widget w [] i (omega arith)

whole-at : (before : List Cell) (c : Cell) (after : List Cell) → WholeCells 5 (before ++ (c ∷ after)) → WholeRect 5 c.frame × WholeRect 5 c.widget
whole-at [] c after (more f w rest) = (f, w)
whole-at (d ∷ before) c after (more f w rest) = whole-at before c after rest

-- ---- how long the W lines are
module _ (n : ℕ) (r : Record) (rs : List Record) (c : Cell) (cs : List Cell) where
  long-step : (b : Bool) → eqb (widget r) 1 ≡ b → widgets (r ∷ rs) ≡ suc (length cs) → (widgets rs ≡ length cs → length (widget_lines (n + 1) rs cs) ≡ 74 * length cs)
      → (widgets rs ≡ suc (length cs) → length (widget_lines (n + 1) rs (c ∷ cs)) ≡ 74 * suc (length cs)) → length (widget_lines n (r ∷ rs) (c ∷ cs)) ≡ 74 * suc (length cs)
  long-step true e w f g = rw (widget-line n r rs c cs e) (omega (arith, length-append (widget_line n c) (widget_lines (n + 1) rs cs), line-long 87 (pos n ∷ eight c), f (one_less r rs (length cs) e w)))
  long-step false e w f g = rw (no-widget n r rs c cs e) (g (none-less r rs (suc (length cs)) e w))

lines_long : (n : ℕ) (rs : List Record) (cs : List Cell) → widgets rs ≡ length cs → length (widget_lines n rs cs) ≡ 74 * length cs
lines_long n rs [] w = ap length (no_lines n rs)
lines_long n [] (c ∷ cs) w = absurd (some_left (length cs) w)
lines_long n (r ∷ rs) (c ∷ cs) w =
    long-step n r rs c cs (eqb (widget r) 1) refl w (λ (v : widgets rs ≡ length cs). lines_long (n + 1) rs cs v) (λ (v : widgets rs ≡ suc (length cs)). lines_long (n + 1) rs (c ∷ cs) v)

-- ---- the lines of an accepted pass
plate-next : (zs : List ℤ) (rest : List ℕ) → Ends 87 74 (line 80 zs ++ rest)
unfolding line
plate-next zs rest = ends-other 87 74 80 ((texts zs ++ (10 ∷ [])) ++ rest) (λ (e : ◌≡◌ {A = ℕ} 80 87). omega (arith, e))

-- ---- a grid's columns and rows
few : (n : ℕ) (xs : List Float) → length (take n xs) ≤ n
few n xs = omega (arith, length-take n xs)

module _ (a : List ℕ) (n : ℕ) (at : length a ≡ 74 * n + 34) (m : Memory) where
  grid-columns : (b : Bool) → (b ≡ true → WholeMemory m) → columns_of (a ++ cond b (memory_lines m) []) n ≡ cond b (length (widths m)) 0
  unfolding columns_of memory_lines
  grid-columns true w = rw (← at) (columns-counted a (widths m) (heights m) (omega (arith, few m.cols m.col_widths, (w refl).cols)))
  grid-columns false w = rw (← at) (none-counted 67 32 a)

  grid-rows : (b : Bool) → (b ≡ true → WholeMemory m) → rows_of (a ++ cond b (memory_lines m) []) n (cond b (length (widths m)) 0) ≡ cond b (length (heights m)) 0
  unfolding rows_of memory_lines
  grid-rows true w = rw (← at) (rows-counted a (widths m) (heights m) (omega (arith, few m.rows m.row_heights, (w refl).rows)))
  grid-rows false w = let e : 74 * n + 34 + 18 * 0 ≡ length a = omega (arith, at) in rw e (none-counted 68 128 a)

split-there : (n : ℕ) (rs : List Record) (cs before : List Cell) (c : Cell) (after : List Cell) (tail : List ℕ) → cs ≡ before ++ (c ∷ after) → (p : Split n rs before c after)
    → widget_lines n rs cs ++ tail ≡ p.front ++ (widget_line p.number c ++ (p.back ++ tail))
split-there n rs cs before c after tail e p =
    ap (λ (x : List Cell). widget_lines n rs x ++ tail) e
    ∙ ap (λ (x : List ℕ). x ++ tail) p.is
    ∙ append_assoc p.front (widget_line p.number c ++ p.back) tail
    ∙ ap (λ (x : List ℕ). p.front ++ x) (append_assoc (widget_line p.number c) p.back tail)

module _ (first : ℕ) (grid : Bool) (rs : List Record) (o : Outcome) (memory : grid ≡ true → WholeMemory o.memory) (all : widgets rs ≡ length o.cells) (room : length o.cells ≤ 512) (whole : WholeCells 5 o.cells) (plate : WholeRect 5 o.plate) where
  abbrev plate_line : List ℕ
  plate_line = line 80 (edges (in_ticks 5 o.plate))

  abbrev rest : List ℕ
  rest = cond grid (memory_lines o.memory) []

  abbrev drawn : List ℕ
  drawn = widget_lines first rs o.cells ++ (plate_line ++ rest)

  cell-shown : (before after : List Cell) (c : Cell) → o.cells ≡ before ++ (c ∷ after) → (i : ℕ) → i < 8 → field_of drawn (74 * length before) (1 + i) ≡ get_or (eight c) i (pos 0)
  cell-shown before after c e i h =
      let p = split first rs before c after (all ∙ ap length e) in
      let v = whole-at before c after (subst (WholeCells 5) e whole) in
      let f : 1 + i ≡ suc i = omega arith in
      let s = split-there first rs o.cells before c after (plate_line ++ rest) e p in
      rw (s, ← p.at, f) (field-read p.front (p.back ++ (plate_line ++ rest)) 87 (pos p.number ∷ eight c) (suc i) (eight-small c v.0 v.1 i h) (omega arith))

  plate-shown : (i : ℕ) → i < 4 → field_of drawn (74 * length o.cells) i ≡ get_or (edges (in_ticks 5 o.plate)) i (pos 0)
  plate-shown i h = rw (← lines_long first rs o.cells all) (field-read (widget_lines first rs o.cells) rest 80 (edges (in_ticks 5 o.plate)) i (edges-small o.plate plate [] i h) h)

  abbrev before : List ℕ
  before = widget_lines first rs o.cells ++ plate_line

  parted : before ++ rest ≡ drawn
  parted = append_assoc (widget_lines first rs o.cells) plate_line rest

  plate-end : length before ≡ 74 * length o.cells + 34
  plate-end = omega (arith, length-append (widget_lines first rs o.cells) plate_line, lines_long first rs o.cells all, line-long 80 (edges (in_ticks 5 o.plate)))

  columns-shown : columns_of drawn (length o.cells) ≡ cond grid (length (widths o.memory)) 0
  columns-shown = ap (λ (s : List ℕ). columns_of s (length o.cells)) (sym parted) ∙ grid-columns before (length o.cells) plate-end o.memory grid memory

  rows-shown : rows_of drawn (length o.cells) (columns_of drawn (length o.cells)) ≡ cond grid (length (heights o.memory)) 0
  rows-shown =
      ap (λ (c : ℕ). rows_of drawn (length o.cells) c) columns-shown
      ∙ ap (λ (s : List ℕ). rows_of s (length o.cells) (cond grid (length (widths o.memory)) 0)) (sym parted)
      ∙ grid-rows before (length o.cells) plate-end o.memory grid memory

  pub shows : Shows grid drawn o
  shows = record {
    controls = counted 512 first rs o.cells [] (plate_line ++ rest) all room (plate-next _ rest);
    cells = cell-shown;
    plate = plate-shown;
    columns = columns-shown;
    rows = rows-shown;
  }

-- ---- what is drawn of a text
module _ (text : List ℕ) (r w : ℕ) (e : checked text 4096 ≡ checked-of.Accepted r w) where
  abbrev grid : Bool
  grid = (sheet_in text).heading.has_grid

  pass-shown : (known : Bool) (m : Memory) (sizing : Bool) → (pass 5 (sheet_in text) known m sizing).number ≡ 0
      → (grid ≡ true → WholeMemory (pass 5 (sheet_in text) known m sizing).memory) → Shows grid (accepted_lines (heading_in text) (records text) (pass 5 (sheet_in text) known m sizing)) (pass 5 (sheet_in text) known m sizing)
  unfolding accepted_lines
  pass-shown known m sizing z f =
      let a = all-controls text in
      let b = pass_all 5 (sheet_in text) known m sizing z in
      let d = pass-few 5 (sheet_in text) known m sizing in
      let t = (clear text 4096 r w e).fits in
      let v = whole-pass 5 (omega arith) (sheet_in text) known m sizing in
      shows ((heading_in text).records + 1) grid (records text) (pass 5 (sheet_in text) known m sizing) f (omega (arith, a, b, d)) (omega (arith, a, d, t)) v.cells v.plate

  list-is : (printed (sheet_in text)).number ≡ 0 → list_of text ≡ accepted_lines (heading_in text) (records text) (printed (sheet_in text))
  unfolding list_of answered outcome_lines
  list-is z = rw (e, eq-eqb (printed (sheet_in text)).number 0 z)

  first-accepted : eqb (passes 5 (sheet_in text) empty_memory 0).number 0 && grid ≡ true → (passes 5 (sheet_in text) empty_memory 0).number ≡ 0
  first-accepted h = go (eqb (passes 5 (sheet_in text) empty_memory 0).number 0) refl h
    where
      go : (b : Bool) → eqb (passes 5 (sheet_in text) empty_memory 0).number 0 ≡ b → b && grid ≡ true → (passes 5 (sheet_in text) empty_memory 0).number ≡ 0
      go true t h = eqb-true (passes 5 (sheet_in text) empty_memory 0).number 0 t
      go false t h = absurd (true≢false (sym h))

  -- the first pass, and the second
  first-shown : (passes 5 (sheet_in text) empty_memory 0).number ≡ 0 → Shows grid (accepted_lines (heading_in text) (records text) (passes 5 (sheet_in text) empty_memory 0)) (passes 5 (sheet_in text) empty_memory 0)
  unfolding passes
  first-shown z = pass-shown false empty_memory true z (λ (g : grid ≡ true). first-whole (sheet_in text) (text-whole text) g z)

  second-shown : (passes 5 (sheet_in text) empty_memory 0).number ≡ 0 → (passes 5 (sheet_in text) empty_memory 1).number ≡ 0 → Shows grid (accepted_lines (heading_in text) (records text) (passes 5 (sheet_in text) empty_memory 1)) (passes 5 (sheet_in text) empty_memory 1)
  unfolding passes
  second-shown one two = pass-shown true (passes 5 (sheet_in text) empty_memory 0).memory false two (λ (g : grid ≡ true). second-whole (sheet_in text) (text-whole text) g one two)

  which-shown : (b : Bool) → eqb (passes 5 (sheet_in text) empty_memory 0).number 0 && grid ≡ b → (printed (sheet_in text)).number ≡ 0
      → Shows grid (accepted_lines (heading_in text) (records text) (printed (sheet_in text))) (printed (sheet_in text))
  unfolding printed
  which-shown true h z = rw h (second-shown (first-accepted h) (rw h at z))
  which-shown false h z = rw h (first-shown (rw h at z))

  pub drawing-shows : (printed (sheet_in text)).number ≡ 0 → Shows grid (list_of text) (printed (sheet_in text))
  drawing-shows z = subst (λ (s : List ℕ). Shows grid s (printed (sheet_in text))) (sym (list-is z)) (which-shown _ refl z)
