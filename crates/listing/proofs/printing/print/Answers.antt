use Rattle.std.proofs.Common.{arith, length, ◌≡◌, refl, rules}
use Rattle.listing.proofs.Puts.{passed-within}
use Rattle.listing.specs.Lists.{list_of}
use Rattle.listing.proofs.Printed.{in-slice}
use Rattle.listing.proofs.Settled.{settled-prints, settled-list}
use Rattle.listing.proofs.printing.print.Goals as goal

pub put_passed-requires : goal.put_passed-requires
put_passed-requires c =
    let s = c.settle-p.ensures in
    settled-prints _ _ _ _ refl s

pub returns : goal.returns
returns c =
    let a = c.args in
    let s = c.settle-p.ensures in
    let l : length a.out.now ≡ 40802 = search rules in
    in-slice _ a.out.now _ (list_of a.text.now) _ c.put_passed.ensures.lines.written (passed-within 40802 _ _ _ _ _ (omega arith, l))
    (settled-list _ _ _ _ refl s _ refl l c.put_passed.ensures.number)
