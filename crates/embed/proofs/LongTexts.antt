-- RULES 6.23: a text longer than any sheet is laid out as its first 50,177 bytes are. Assumes nothing.
use Prim.Native.Nat.{ℕ}
use mathlib.Core.Path.{◌≡◌, refl, ap, ◌∙◌}
use mathlib.Core.Bool.{Bool, true, false, cond, ◌&&◌}
use mathlib.Core.List.{List}
use native.Mathlib.Omega.{arith}
use borrow.Author.Tests.{leb-true, leb-false}
use lib.Dec.{leb, eqb}
use lib.IntN.{ℤ}
use lib.ListN.{length, take}
use lib.Seq.{take_all}
use Rattle.grid.specs.Memories.{empty_memory}
use Rattle.grid.specs.declared.Memory.{Memory}
use Rattle.records.specs.Headings.{heading_in}
use Rattle.records.specs.Sheets.{records, checked}
use Rattle.records.specs.declared.Heading.{Heading}
use Rattle.records.specs.Sheets.{Checked}
use Rattle.records.specs.Sheets.{Accepted, Refused}
use Rattle.records.proofs.Prefixes.{Prefix, long-text}
use Rattle.sheet.specs.Texts.{sheet_in}
use Rattle.sheet.specs.Slices.{LaidOut, after_check, laid}
use Rattle.listing.specs.Lists.{settled_from, settled}

same_text : (text : List ℕ) (room : ℕ) → Prefix text room
same_text text room = go (leb (length text) 50177) refl
  where
    go : (b : Bool) → leb (length text) 50177 ≡ b → Prefix text room
    go true e =
        let s = take_all 50177 text (leb-true (length text) 50177 e) in
        record { check = ap (λ (t : List ℕ). checked t room) s; heading = ap heading_in s; steps = ap (λ (t : List ℕ). records t) s }
    go false e = let l = leb-false (length text) 50177 e in long-text text room (omega (arith, l))

same_after : (s t : List ℕ) → heading_in s ≡ heading_in t → records s ≡ records t → (c : Checked) (known : Bool) (m : Memory) (sizing : Bool) (out : List ℤ)
    → after_check c s known m sizing out ≡ after_check c t known m sizing out
unfolding after_check
same_after s t h e (Refused n at) known m sizing out = refl
same_after s t h e (Accepted r w) known m sizing out = rw (e, h)

pub long-laid : (text : List ℕ) (known : Bool) (m : Memory) (sizing : Bool) (out : List ℤ) → laid (take 50177 text) known m sizing out ≡ laid text known m sizing out
unfolding laid
long-laid text known m sizing out =
    let p = same_text text (length out) in
    ap (λ (c : Checked). after_check c (take 50177 text) known m sizing out) p.check ∙ same_after (take 50177 text) text p.heading p.steps (checked text (length out)) known m sizing out

from-same : (text : List ℕ) (l : LaidOut) → settled_from (take 50177 text) l ≡ settled_from text l
unfolding settled_from
from-same text l =
    ap (λ (x : LaidOut). cond (eqb l.outcome.number 0 && (sheet_in (take 50177 text)).heading.has_grid) x l) (long-laid text true l.outcome.memory false l.slice)
    ∙ ap (λ (h : Heading). cond (eqb l.outcome.number 0 && h.has_grid) (laid text true l.outcome.memory false l.slice) l) (same_text text 0).heading

pub long-settled : (text : List ℕ) (out : List ℤ) → settled (take 50177 text) out ≡ settled text out
unfolding settled
long-settled text out = ap (λ (l : LaidOut). settled_from (take 50177 text) l) (long-laid text false empty_memory true out) ∙ from-same text (laid text false empty_memory true out)
