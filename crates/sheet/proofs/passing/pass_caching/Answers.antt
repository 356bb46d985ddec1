use Rattle.std.proofs.Common.{sym, rules}
use Rattle.sheet.proofs.Slices.{room_after}
use Rattle.sheet.proofs.WalkedPasses.{as_called, as-refused}
use Rattle.sheet.proofs.passing.pass_caching.Goals as goal

pub from_heading-requires : goal.from_heading-requires
from_heading-requires c =
    let checked = c.check_caching in
    let e = rw c.in-Ok.is at checked.ensures.0 in
    rw (c.read_heading.ensures.0, checked.ensures.1) (room_after _ _ _ _ _ (search rules) (sym e))

pub returns-in-Ok : goal.returns-in-Ok
returns-in-Ok c =
    let checked = c.check_caching in
    let e = rw c.in-Ok.is at checked.ensures.0 in
    (as_called _ _ _ _ _ _ _ _ _ _ (sym e) c.read_heading.ensures.0 c.from_heading.ensures, checked.ensures.1)

pub returns-in-Err : goal.returns-in-Err
returns-in-Err c =
    let checked = c.check_caching in
    let e = rw c.in-Err.is at checked.ensures.0 in
    (as-refused _ _ _ _ _ _ _ _ (sym e) c.refused.ensures, checked.ensures.1)
