use Rattle.std.proofs.Common.{refl, arith}
use Rattle.sheet.specs.Implementation.Walks.{put_at}
use Rattle.sheet.proofs.cells.put.Goals as goal

pub returns-in_default : goal.returns-in_default
unfolding put_at
returns-in_default c = rw c.in_default.is (omega arith, refl)

pub write_cell-requires : goal.write_cell-requires
write_cell-requires c =
    let room = rw c.in-Some.is at c.requires.placed_in_bounds in
    let whole = rw c.in-Some.is at c.requires.whole_rect in
    record { at_in_bounds = omega arith; whole_rect = whole (omega arith) }

pub returns : goal.returns
unfolding put_at
returns c = rw c.in-Some.is (refl, c.write_cell.ensures)
