-- What `settle` gives is what the list is printed from: it goes on to a second pass exactly where the rule does, and what it gives can be
-- printed. Assumes nothing.
use Rattle.std.proofs.Common.{ℕ, ◌<◌, ◌≡◌, refl, ap, sym, ◌∙◌, subst, Bool, true, false, cond, ◌&&◌, true≢false, List, [], arith, eqb, ℤ, length, Float, eqb-true, ne_eqb}
use Rattle.grid.specs.Memories.{empty_memory}
use Rattle.grid.specs.declared.Memory.{Memory}
use Rattle.records.specs.Headings.{has_grid_lem}
use Rattle.records.specs.Sheets.{checked}
use Rattle.records.specs.Implementation.SizeCache.{cached_by}
use Rattle.records.proofs.Checks.{some_number}
use Rattle.records.specs.Sheets.{Checked}
use Rattle.records.specs.Sheets as checked-of
use Rattle.sheet.specs.Pass.{Outcome, refused_at, pass}
use Rattle.sheet.specs.Passes.{passes}
use Rattle.sheet.specs.Texts.{sheet_in}
use Rattle.std.specs.Prelude.{Result, Ok, Err, is_ok}
use Rattle.records.specs.declared.SheetRefusal.{SheetRefusal}
use Rattle.sheet.specs.Slices.{LaidOut, laid_of, laid_number, laid_outcome, passed_of, after_check, laid, Returns, Called}
use Rattle.sheet.specs.Implementation.Walks.{Known}
use Rattle.sheet.specs.Slices.{Passed}
use Rattle.sheet.proofs.Returned.{called}
use Rattle.sheet.proofs.Slices.{room_after, laid-length}
use Rattle.listing.specs.Lists.{printed, settled_from, settled, list_of}
use Rattle.listing.specs.Implementation.ListWriter.{Put, is_accepted, Printable, put_passed}
use Rattle.listing.proofs.Written.{after}
use Rattle.listing.proofs.Places.{grid-there}
use Rattle.listing.proofs.Printed.{accepted-is, first-prints, first-list, second-prints, second-list}

module _ (text : List ℕ) (out : List ℤ) where
  abbrev first : LaidOut
  first = laid text false empty_memory true out

  -- an accepted pass is over a text without a fault
  grid-known : first.outcome.number ≡ 0 → has_grid_lem text ≡ (sheet_in text).heading.has_grid
  unfolding laid after_check
  grid-known z = go (checked text (length out)) refl z
    where
      go : (c : Checked) → checked text (length out) ≡ c → (after_check c text false empty_memory true out).outcome.number ≡ 0 → has_grid_lem text ≡ (sheet_in text).heading.has_grid
      go (checked-of.Refused n at) e h = absurd (omega (arith, h, some_number text (length out) n at e))
      go (checked-of.Accepted r w) e h = grid-there text

  -- whether the code goes on is whether the rule does
  goes_on : is_accepted (laid_of first.outcome.number first.outcome.at) && has_grid_lem text ≡ eqb first.outcome.number 0 && (sheet_in text).heading.has_grid
  goes_on = rw (accepted-is first.outcome.number first.outcome.at) (go (eqb first.outcome.number 0) refl)
    where
      go : (b : Bool) → eqb first.outcome.number 0 ≡ b → b && has_grid_lem text ≡ b && (sheet_in text).heading.has_grid
      go true e = grid-known (eqb-true first.outcome.number 0 e)
      go false e = refl

  by_code : (b : Bool) → is_accepted (laid_of first.outcome.number first.outcome.at) && has_grid_lem text ≡ b
      → settled text out ≡ cond b (laid text true first.outcome.memory false first.slice) first
  unfolding settled settled_from
  by_code b h = ap (λ (x : Bool). cond x (laid text true first.outcome.memory false first.slice) first) (sym goes_on ∙ h)

  -- ---- the code
  module _ (p : Passed) (between : List ℤ) (c : Called text false empty_memory true out p between) where
    of-first : (b : Bool) → is_accepted p.laid && has_grid_lem text ≡ b → settled text out ≡ cond b (laid text true first.outcome.memory false first.slice) first
    of-first b h = by_code b (ap (λ (x : Passed). is_accepted x.laid && has_grid_lem text) (sym c.answer) ∙ h)

    accepted-first : is_accepted p.laid && has_grid_lem text ≡ true → first.outcome.number ≡ 0
    accepted-first h = go (eqb first.outcome.number 0) refl (ap (λ (b : Bool). b && has_grid_lem text) (sym (accepted-is first.outcome.number first.outcome.at)) ∙ ap (λ (x : Passed). is_accepted x.laid && has_grid_lem text) (sym c.answer) ∙ h)
      where
        go : (b : Bool) → eqb first.outcome.number 0 ≡ b → b && has_grid_lem text ≡ true → first.outcome.number ≡ 0
        go true e f = eqb-true first.outcome.number 0 e
        go false e f = absurd (true≢false (sym f))

    -- a second pass needs no second check
    pub known-again : (sizes : List Float) → length sizes ≡ 1026 → length between ≡ length out → is_accepted p.laid && has_grid_lem text ≡ true → Known text (length between) (cached_by text sizes)
    unfolding laid after_check
    known-again sizes l kept h = rw kept (go (checked text (length out)) refl (accepted-first h))
      where
        go : (c : Checked) → checked text (length out) ≡ c → (after_check c text false empty_memory true out).outcome.number ≡ 0 → Known text (length out) (cached_by text sizes)
        go (checked-of.Refused n at) e z = absurd (omega (arith, z, some_number text (length out) n at e))
        go (checked-of.Accepted r w) e z = record { all = r; widgets = w; accepted = e; ready = room_after text (length out) r w sizes l e }

    pub once : is_accepted p.laid && has_grid_lem text ≡ false → Returns (settled text out) p between
    once h = subst (λ (l : LaidOut). Returns l p between) (sym (of-first false h)) c

    pub again : (q : Passed) (exit : List ℤ) → Called text true p.memory false between q exit → is_accepted p.laid && has_grid_lem text ≡ true → Returns (settled text out) q exit
    again q exit d h =
        let f : laid text true p.memory false between ≡ laid text true first.outcome.memory false first.slice = ap (λ (x : Passed). laid text true x.memory false between) c.answer ∙ ap (λ (x : List ℤ). laid text true first.outcome.memory false x) c.slice in
        subst (λ (l : LaidOut). Returns l q exit) (f ∙ sym (of-first true h)) d

-- ---- the list
module _ (text : List ℕ) (out exit : List ℤ) (p : Passed) (full : length out ≡ 4096) (a : Returns (settled text out) p exit) where
  abbrev between : List ℤ
  between = (laid text false empty_memory true out).slice

  abbrev f : Passed
  f = passed_of (laid text false empty_memory true out).outcome

  c : Called text false empty_memory true out f between
  c = called text false empty_memory true out f between refl refl

  kept : length between ≡ 4096
  kept = laid-length text false empty_memory true out ∙ full

  one : is_accepted f.laid && has_grid_lem text ≡ false → Called text false empty_memory true out p exit
  one h = subst (λ (l : LaidOut). Returns l p exit) (by_code text out false h) a

  two : is_accepted f.laid && has_grid_lem text ≡ true → Called text true f.memory false between p exit
  two h = subst (λ (l : LaidOut). Returns l p exit) (by_code text out true h) a

  pub settled-prints : Printable p
  settled-prints = go (is_accepted f.laid && has_grid_lem text) refl
    where
      go : (b : Bool) → is_accepted f.laid && has_grid_lem text ≡ b → Printable p
      go true h = second-prints text out between f full c exit p kept (two h) h
      go false h = first-prints text out exit p full (one h)

  pub settled-list : (P : Put) → P.at ≡ 0 → length P.out ≡ 40802 → laid_number p.laid < 256 → put_passed p.laid text exit p P ≡ after P (list_of text)
  settled-list P start room few = go (is_accepted f.laid && has_grid_lem text) refl
    where
      go : (b : Bool) → is_accepted f.laid && has_grid_lem text ≡ b → put_passed p.laid text exit p P ≡ after P (list_of text)
      go true h = second-list text out between f full c exit p kept (two h) h P start room few
      go false h = first-list text out exit p full (one h) P start room (ap (λ (x : Passed). is_accepted x.laid && has_grid_lem text) (one h).answer ∙ h) few

-- ---- what it gives, in the rule's words
outcome-is : (text : List ℕ) (known : Bool) (m : Memory) (sizing : Bool) (out : List ℤ) (r w : ℕ) → checked text (length out) ≡ checked-of.Accepted r w
    → (laid text known m sizing out).outcome ≡ pass 5 (sheet_in text) known m sizing
unfolding laid after_check
outcome-is text known m sizing out r w e = rw e

-- where none of 1 to 3 applies it is the pass that is printed
pub settled-printed : (text : List ℕ) (out : List ℤ) (r w : ℕ) → checked text (length out) ≡ checked-of.Accepted r w → (settled text out).outcome ≡ printed (sheet_in text)
unfolding settled settled_from printed passes
settled-printed text out r w e = go (eqb (first text out).outcome.number 0 && (sheet_in text).heading.has_grid) ∙ ap (λ (o : Outcome). cond (eqb o.number 0 && (sheet_in text).heading.has_grid) again-pass first-pass) one
  where
    first-pass : Outcome
    first-pass = pass 5 (sheet_in text) false empty_memory true

    again-pass : Outcome
    again-pass = pass 5 (sheet_in text) true first-pass.memory false

    one : (first text out).outcome ≡ first-pass
    one = outcome-is text false empty_memory true out r w e

    two : (laid text true (first text out).outcome.memory false (first text out).slice).outcome ≡ again-pass
    two =
        outcome-is text true (first text out).outcome.memory false (first text out).slice r w (ap (λ (n : ℕ). checked text n) (laid-length text false empty_memory true out) ∙ e)
        ∙ ap (λ (o : Outcome). pass 5 (sheet_in text) true o.memory false) one

    go : (b : Bool) → (cond b (laid text true (first text out).outcome.memory false (first text out).slice) (first text out)).outcome ≡ cond b again-pass first-pass
    go true = two
    go false = one

-- after 1 to 3 the slice is as it was
pub settled-untouched : (text : List ℕ) (out : List ℤ) (n at : ℕ) → checked text (length out) ≡ checked-of.Refused n at
    → settled text out ≡ record { outcome = refused_at n at [] empty_memory; slice = out }
unfolding settled settled_from laid after_check
settled-untouched text out n at e = rw (e, ne_eqb n 0 (λ (z : n ≡ 0). omega (arith, z, some_number text (length out) n at e)))

-- whether a pass is accepted
pub laid-ok : (r : Result (Unit {0}) SheetRefusal) → is_accepted (laid_outcome r) ≡ is_ok r
unfolding is_accepted
laid-ok (Ok u) = refl
laid-ok (Err e) = refl
