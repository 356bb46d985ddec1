-- RULES 6.23: a text longer than any sheet has the list of its first 50,177 bytes, so a buffer of that length is enough. Assumes nothing.
use Rattle.std.proofs.Common.{ℕ, ◌≡◌, refl, ap, ◌∙◌, Bool, true, false, List, arith, leb-true, leb-false, leb, length, take, take_all}
use Rattle.records.specs.Headings.{heading_in}
use Rattle.records.specs.Sheets.{records, checked}
use Rattle.records.specs.Sheets.{Checked}
use Rattle.records.specs.Sheets.{Accepted, Refused}
use Rattle.records.proofs.Prefixes.{long-text}
use Rattle.listing.specs.Lists.{answered, list_of}

same-records : (s t : List ℕ) → heading_in s ≡ heading_in t → records s ≡ records t → (c : Checked) → answered c s ≡ answered c t
unfolding answered
same-records s t h e (Refused n at) = refl
same-records s t h e (Accepted r w) = rw (e, h)

pub long-list : (text : List ℕ) → list_of (take 50177 text) ≡ list_of text
unfolding list_of
long-list text = go (leb (length text) 50177) refl
  where
    go : (b : Bool) → leb (length text) 50177 ≡ b → answered (checked (take 50177 text) 4096) (take 50177 text) ≡ answered (checked text 4096) text
    go true e = ap (λ (s : List ℕ). answered (checked s 4096) s) (take_all 50177 text (leb-true (length text) 50177 e))
    go false e =
        let l = leb-false (length text) 50177 e in
        let h = long-text text 4096 (omega (arith, l)) in
        ap (λ (c : Checked). answered c (take 50177 text)) h.check ∙ same-records (take 50177 text) text h.heading h.steps (checked text 4096)
