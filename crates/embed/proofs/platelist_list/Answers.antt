use Prim.Native.Nat.{ℕ}
use mathlib.Core.Path.{◌≡◌, ap}
use mathlib.Core.List.{List}
use native.Mathlib.Omega.{arith}
use lib.ListN.{length}
use Rattle.listing.proofs.Printed.{same-room}
use Rattle.embed.proofs.Copied.{copied-list}
use Rattle.embed.proofs.platelist_list.Goals as goal

pub slice_bounds-copy_whole-end : goal.slice_bounds-copy_whole-end
slice_bounds-copy_whole-end c =
    let l : length c.print-n.new.out ≡ 40802 = same-room _ _ _ _ c.print-n.ensures.0 in
    omega (arith, l)

pub copy_whole-requires : goal.copy_whole-requires
copy_whole-requires c =
    let l : length c.print-n.new.out ≡ 40802 = same-room _ _ _ _ c.print-n.ensures.0 in
    omega (arith, l, c.print-n.ensures.1)

pub returns : goal.returns
returns c =
    let p = c.print-n.ensures in
    (copied-list _ _ _ _ _ _ p.0 (omega (arith, ap (λ (x : ℕ × List ℕ). x.0) p.0, p.1)) c.copy_whole.ensures, p.1)
