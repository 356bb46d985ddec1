-- What a call of `pass` gives can be printed, and what the code then writes is the list. Assumes nothing.
use Rattle.std.proofs.Common.{ℕ, zero, suc, ◌+◌, ◌≤◌, ◌<◌, ◌≡◌, refl, ap, sym, ◌∙◌, subst, Bool, true, false, cond, ◌&&◌, true≢false, List, [], ◌++◌, arith, eqb, ℤ, length, eq-eqb, ne_eqb}
use Rattle.std.proofs.Math.Seq.{sets, length-sets}
use Rattle.region.specs.Steps.{WholeRect}
use Rattle.grid.specs.Memories.{empty_memory}
use Rattle.grid.specs.declared.Memory.{Memory}
use Rattle.text.specs.Lines.{line}
use Rattle.records.specs.Headings.{has_grid_lem, heading_in}
use Rattle.records.specs.Sheets.{records, checked}
use Rattle.records.proofs.Prefixes.{few-records}
use Rattle.records.proofs.Checks.{clear, some_number}
use Rattle.records.specs.Sheets.{Checked}
use Rattle.records.specs.Sheets as checked-of
use Rattle.sheet.specs.Pass.{Outcome, pass}
use Rattle.sheet.specs.Passes.{passes}
use Rattle.sheet.specs.Ticks.{in_ticks}
use Rattle.sheet.specs.Texts.{sheet_in}
use Rattle.sheet.specs.Slices.{edges, laid_of, laid_number, after_check, laid, Called}
use Rattle.sheet.specs.Slices.{Laid}
use Rattle.sheet.specs.Slices.{Accepted, Refused}
use Rattle.sheet.specs.Slices.{Passed}
use Rattle.sheet.proofs.Slices as sheet-slices
use Rattle.pass_laws.proofs.TextTicks.{text-whole}
use Rattle.pass_laws.proofs.WholeEdges.{whole-pass}
use Rattle.sheet.proofs.Shown.{Shown, shown, no_number, pass_all}
use Rattle.listing.specs.Lists.{printed, widget_lines, entry_lines, memory_lines, accepted_lines, refusal_line, outcome_lines, answered, list_of, list_in}
use Rattle.listing.specs.Implementation.ListWriter.{Put, put_accepted, WholeMemory, is_accepted, printable, Printable, put_passed}
use Rattle.listing.proofs.Puts.{Within}
use Rattle.listing.proofs.Written as written
use Rattle.listing.proofs.Written.{after}
use Rattle.listing.proofs.Memories.{empty-whole, first-whole, second-whole, plain-memory}
use Rattle.listing.proofs.Places.{all-controls, grid-there, laid-few}

-- the list by what the check answered: its refusal, or the lines of one pass's outcome
abbrev pub list_by_check : Checked → List ℕ → Outcome → List ℕ
list_by_check (checked-of.Refused n at) text o = refusal_line n at
list_by_check (checked-of.Accepted r w) text o = outcome_lines (heading_in text) (records text) o

list-by-check : (text : List ℕ) → list_by_check (checked text 4096) text (printed (sheet_in text)) ≡ list_of text
unfolding list_of answered
list-by-check text = go (checked text 4096)
  where
    go : (c : Checked) → list_by_check c text (printed (sheet_in text)) ≡ answered c text
    go (checked-of.Refused n at) = refl
    go (checked-of.Accepted r w) = refl

no-entries : memory_lines empty_memory ≡ []
unfolding memory_lines entry_lines
no-entries = refl

-- ---- laid_of
said-refused : (n at : ℕ) → 0 < n → laid_of n at ≡ Refused n at
unfolding laid_of
said-refused zero at h = absurd (omega arith)
said-refused (suc n) at h = rw (ne_eqb (suc n) 0 (λ (e : suc n ≡ 0). omega arith))

said-accepted : (n at : ℕ) → n ≡ 0 → laid_of n at ≡ Accepted
unfolding laid_of
said-accepted n at e = rw (eq-eqb n 0 e)

pub accepted-is : (n at : ℕ) → is_accepted (laid_of n at) ≡ eqb n 0
unfolding laid_of is_accepted
accepted-is n at = go (eqb n 0)
  where
    go : (b : Bool) → is_accepted (cond b Accepted (Refused n at)) ≡ b
    go true = refl
    go false = refl

-- ---- a call
module _ (text : List ℕ) (known : Bool) (m : Memory) (sizing : Bool) (out : List ℤ) (p : Passed) (exit : List ℤ) (c : Called text known m sizing out p exit) where
  abbrev o : Outcome
  o = pass 5 (sheet_in text) known m sizing

  laid-is : p.laid ≡ laid_of (laid text known m sizing out).outcome.number (laid text known m sizing out).outcome.at
  laid-is = ap (λ (x : Passed). x.laid) c.answer

  refused-at : (n at : ℕ) → p.laid ≡ Refused n at → at ≤ 600
  refused-at n at e = go (laid text known m sizing out).outcome.number (laid text known m sizing out).outcome.at (sym laid-is ∙ e) (laid-few text known m sizing out)
    where
      go : (x y : ℕ) → laid_of x y ≡ Refused n at → y ≤ 600 → at ≤ 600
      go zero y h l = let q : Accepted ≡ Refused n at = sym (said-accepted 0 y refl) ∙ h in absurd (let z : ◌≡◌ {A = ℕ} 0 1 = cc in omega arith)
      go (suc x) y h l = let q : Refused (suc x) y ≡ Refused n at = sym (said-refused (suc x) y (omega arith)) ∙ h in let z : y ≡ at = cc in omega (arith, l, z)

  module _ (f : o.number ≡ 0 → WholeMemory o.memory) where
    pub can-print : Printable p
    unfolding printable
    can-print = go p.laid refl
      where
        go : (l : Laid) → p.laid ≡ l → printable l p
        go Accepted e =
            let s = shown text known m sizing out p exit c e in
            (subst (WholeRect 5) (sym s.plate) (whole-pass 5 (omega arith) (sheet_in text) known m sizing).plate, subst WholeMemory (sym s.memory) (f s.number))
        go (Refused n at) e = refused-at n at e

    module _ (full : length out ≡ 4096) (P : Put) (start : P.at ≡ 0) (room : length P.out ≡ 40802) where
      -- an accepted pass
      whole-list : (r w : ℕ) → checked text 4096 ≡ checked-of.Accepted r w → Shown text known m sizing p exit
          → put_accepted text exit p.plate p.memory P ≡ after P (widget_lines ((heading_in text).records + 1) (records text) o.cells ++ (line 80 (edges (in_ticks 5 o.plate)) ++ memory_lines o.memory))
      whole-list r w e s =
          let v = clear text 4096 r w e in
          let a = all-controls text in
          let b = pass_all 5 (sheet_in text) known m sizing s.number in
          let d = sheet-slices.pass-few 5 (sheet_in text) known m sizing in
          let t = v.fits in
          let i = whole-pass 5 (omega arith) (sheet_in text) known m sizing in
          rw (s.plate, s.memory)
          (written.put-accepted text exit o.plate o.memory P o.cells
          (record { well = v.steps; from = omega arith; few = omega (arith, few-records text); others = s.others; there = s.slice; whole = i.cells; all = omega (arith, a, b, d); room = omega (arith, a, d, t, start, room) })
          i.plate (f s.number) (omega (arith, start, room)) (omega (arith, a, d, t)))

      -- one of 1 to 3, or the pass's own outcome
      by-check : (k : Checked) → checked text 4096 ≡ k → (laid text known m sizing out).outcome ≡ (after_check k text known m sizing out).outcome
      unfolding laid
      by-check k e = ap (λ (x : Checked). (after_check x text known m sizing out).outcome) (ap (λ (n : ℕ). checked text n) full ∙ e)

      refused-line : (n at : ℕ) → 0 < n → p.laid ≡ laid_of n at → laid_number p.laid < 256 → put_passed p.laid text exit p P ≡ after P (refusal_line n at)
      unfolding put_passed laid_number
      refused-line n at h e few =
          let l = e ∙ said-refused n at h in
          rw l (written.put-refusal n at P (rw l at few) (refused-at n at l) (omega (arith, start, room)))

      -- without a grid there is no line of the memory
      memory-lines : ((sheet_in text).heading.has_grid ≡ false → m ≡ empty_memory) → memory_lines o.memory ≡ cond (sheet_in text).heading.has_grid (memory_lines o.memory) []
      memory-lines g = go (sheet_in text).heading.has_grid refl
        where
          go : (b : Bool) → (sheet_in text).heading.has_grid ≡ b → memory_lines o.memory ≡ cond b (memory_lines o.memory) []
          go true e = refl
          go false e = ap (λ (x : Memory). memory_lines x) (plain-memory 5 (sheet_in text) known m sizing e ∙ g e) ∙ no-entries

      module _ (g : (sheet_in text).heading.has_grid ≡ false → m ≡ empty_memory) (few : laid_number p.laid < 256) where
        abbrev Puts : List ℕ → Type 0
        Puts l = put_passed p.laid text exit p P ≡ after P l

        puts-accepted : (r w : ℕ) → checked text 4096 ≡ checked-of.Accepted r w → o.number ≡ 0 → p.laid ≡ Accepted → Puts (outcome_lines (heading_in text) (records text) o)
        unfolding put_passed outcome_lines accepted_lines
        puts-accepted r w e z l =
            rw (l, eq-eqb o.number 0 z)
            (whole-list r w e (shown text known m sizing out p exit c l)
            ∙ ap (λ (x : List ℕ). after P (widget_lines ((heading_in text).records + 1) (records text) o.cells ++ (line 80 (edges (in_ticks 5 o.plate)) ++ x))) (memory-lines g))

        puts-refused : (n : ℕ) → o.number ≡ suc n → p.laid ≡ laid_of o.number o.at → Puts (outcome_lines (heading_in text) (records text) o)
        unfolding outcome_lines
        puts-refused n z l = rw (ne_eqb o.number 0 (λ (e : o.number ≡ 0). omega (arith, e, z))) (refused-line o.number o.at (omega (arith, z)) l few)

        puts-by-check : (k : Checked) → checked text 4096 ≡ k → p.laid ≡ laid_of (after_check k text known m sizing out).outcome.number (after_check k text known m sizing out).outcome.at → Puts (list_by_check k text o)
        unfolding after_check
        puts-by-check (checked-of.Refused n at) e l = refused-line n at (some_number text 4096 n at e) l few
        puts-by-check (checked-of.Accepted r w) e l = on o.number refl
          where
            on : (n : ℕ) → o.number ≡ n → Puts (outcome_lines (heading_in text) (records text) o)
            on zero z = puts-accepted r w e z (l ∙ said-accepted o.number o.at z)
            on (suc n) z = puts-refused n z l

        pub puts-call : Puts (list_by_check (checked text 4096) text o)
        puts-call = puts-by-check (checked text 4096) refl (laid-is ∙ ap (λ (x : Outcome). laid_of x.number x.at) (by-check (checked text 4096) refl))

-- ---- the program's one pass, or two
module _ (text : List ℕ) (out between : List ℤ) (p : Passed) (full : length out ≡ 4096) (c : Called text false empty_memory true out p between) where
  -- without a grid the first pass is printed, and so it is where it is refused
  memory-first : (b : Bool) → (sheet_in text).heading.has_grid ≡ b → (passes 5 (sheet_in text) empty_memory 0).number ≡ 0 → WholeMemory (passes 5 (sheet_in text) empty_memory 0).memory
  unfolding passes
  memory-first true g z = first-whole (sheet_in text) (text-whole text) g z
  memory-first false g z = subst WholeMemory (sym (plain-memory 5 (sheet_in text) false empty_memory true g)) empty-whole

  pub first-prints : Printable p
  unfolding passes
  first-prints = can-print text false empty_memory true out p between c (memory-first (sheet_in text).heading.has_grid refl)

  laid_by : (k : Checked) → checked text 4096 ≡ k → p.laid ≡ laid_of (after_check k text false empty_memory true out).outcome.number (after_check k text false empty_memory true out).outcome.at
  unfolding laid
  laid_by k e =
      laid-is text false empty_memory true out p between c
      ∙ ap (λ (x : Checked). laid_of (after_check x text false empty_memory true out).outcome.number (after_check x text false empty_memory true out).outcome.at) (ap (λ (n : ℕ). checked text n) full ∙ e)

  laid-first : (r w : ℕ) → checked text 4096 ≡ checked-of.Accepted r w → p.laid ≡ laid_of (passes 5 (sheet_in text) empty_memory 0).number (passes 5 (sheet_in text) empty_memory 0).at
  unfolding after_check passes
  laid-first r w e = laid_by (checked-of.Accepted r w) e

  -- whether the code goes on is whether the rule does
  goes_on : (r w : ℕ) → checked text 4096 ≡ checked-of.Accepted r w → is_accepted p.laid && has_grid_lem text ≡ eqb (passes 5 (sheet_in text) empty_memory 0).number 0 && (sheet_in text).heading.has_grid
  goes_on r w e = rw (laid-first r w e, accepted-is (passes 5 (sheet_in text) empty_memory 0).number (passes 5 (sheet_in text) empty_memory 0).at, grid-there text)

  which : (b : Bool) → is_accepted p.laid && has_grid_lem text ≡ b → (k : Checked) → checked text 4096 ≡ k
      → list_by_check k text (cond b (passes 5 (sheet_in text) empty_memory 1) (passes 5 (sheet_in text) empty_memory 0)) ≡ list_by_check k text (printed (sheet_in text))
  unfolding printed
  which b h (checked-of.Refused n at) e = refl
  which b h (checked-of.Accepted r w) e =
      ap (λ (x : Bool). outcome_lines (heading_in text) (records text) (cond x (passes 5 (sheet_in text) empty_memory 1) (passes 5 (sheet_in text) empty_memory 0))) (sym h ∙ goes_on r w e)

  which-list : (b : Bool) → is_accepted p.laid && has_grid_lem text ≡ b → list_by_check (checked text 4096) text (cond b (passes 5 (sheet_in text) empty_memory 1) (passes 5 (sheet_in text) empty_memory 0)) ≡ list_of text
  which-list b h = which b h (checked text 4096) refl ∙ list-by-check text

  pub first-list : (P : Put) → P.at ≡ 0 → length P.out ≡ 40802 → is_accepted p.laid && has_grid_lem text ≡ false → laid_number p.laid < 256 → put_passed p.laid text between p P ≡ after P (list_of text)
  unfolding passes
  first-list P start room h few =
      puts-call text false empty_memory true out p between c (memory-first (sheet_in text).heading.has_grid refl) full P start room (λ (e : (sheet_in text).heading.has_grid ≡ false). refl) few
      ∙ ap (λ (l : List ℕ). after P l) (which-list false h)

  -- a second pass, over the same slice
  record Again : Type 0 where
    pub grid : (sheet_in text).heading.has_grid ≡ true
    pub number : (passes 5 (sheet_in text) empty_memory 0).number ≡ 0
    pub memory : p.memory ≡ (passes 5 (sheet_in text) empty_memory 0).memory

  accepted-laid : (l : Laid) (b : Bool) → is_accepted l && b ≡ true → (l ≡ Accepted) × (b ≡ true)
  unfolding is_accepted
  accepted-laid Accepted b h = (refl, h)
  accepted-laid (Refused n at) b h = absurd (true≢false (sym h))

  again : is_accepted p.laid && has_grid_lem text ≡ true → Again
  unfolding passes after_check
  again h = go (checked text 4096) refl
    where
      l : p.laid ≡ Accepted
      l = (accepted-laid p.laid (has_grid_lem text) h).0

      s : Shown text false empty_memory true p between
      s = shown text false empty_memory true out p between c l

      go : (k : Checked) → checked text 4096 ≡ k → Again
      go (checked-of.Refused n at) e = absurd (omega (arith, no_number n at (sym (laid_by (checked-of.Refused n at) e) ∙ l), some_number text 4096 n at e))
      go (checked-of.Accepted r w) e = record { grid = sym (grid-there text) ∙ (accepted-laid p.laid (has_grid_lem text) h).1; number = s.number; memory = s.memory }

  module _ (exit : List ℤ) (q : Passed) (kept : length between ≡ 4096) (d : Called text true p.memory false between q exit) (h : is_accepted p.laid && has_grid_lem text ≡ true) where
    with_first : Called text true (passes 5 (sheet_in text) empty_memory 0).memory false between q exit
    with_first = subst (λ (m : Memory). Called text true m false between q exit) (again h).memory d

    memory-second : (passes 5 (sheet_in text) empty_memory 1).number ≡ 0 → WholeMemory (passes 5 (sheet_in text) empty_memory 1).memory
    memory-second z = second-whole (sheet_in text) (text-whole text) (again h).grid (again h).number z

    pub second-prints : Printable q
    unfolding passes
    second-prints = can-print text true (passes 5 (sheet_in text) empty_memory 0).memory false between q exit with_first memory-second

    pub second-list : (P : Put) → P.at ≡ 0 → length P.out ≡ 40802 → laid_number q.laid < 256 → put_passed q.laid text exit q P ≡ after P (list_of text)
    unfolding passes
    second-list P start room few =
        puts-call text true (passes 5 (sheet_in text) empty_memory 0).memory false between q exit with_first memory-second kept P start room (λ (e : (sheet_in text).heading.has_grid ≡ false). absurd (true≢false (sym (sym e ∙ (again h).grid)))) few
        ∙ ap (λ (l : List ℕ). after P l) (which-list true h)

-- ---- the length, and the array
pub in-slice : (n : ℕ) (out o l : List ℕ) (P : Put) → record { at = n; out = o } ≡ P → Within P 40802 → P ≡ after (record { at = 0; out = out }) l
    → (◌≡◌ {A = ℕ × List ℕ} (n, o) (length l, sets out 0 l)) × (n ≤ 40802)
in-slice n out o l P e w f =
    let a : n ≡ length l = omega (arith, ap (λ (x : Put). x.at) (e ∙ f)) in
    let b : o ≡ sets out 0 l = ap (λ (x : Put). x.out) (e ∙ f) in
    (rw (a, b), omega (arith, ap (λ (x : Put). x.at) e, w.0))

pub same-room : (n : ℕ) (o out text : List ℕ) → ◌≡◌ {A = ℕ × List ℕ} (n, o) (list_in out text) → length o ≡ length out
same-room n o out text e = ap (λ (x : ℕ × List ℕ). length x.1) e ∙ length-sets out 0 (list_of text)
