use Rattle.std.proofs.Common.{refl, rules}
use Rattle.listing.proofs.Puts.{line-fits, line-put}
use Rattle.listing.proofs.lines.Pen.put_line.Goals as goal

pub overflow_add-self-then-write_line : goal.overflow_add-self-then-write_line
overflow_add-self-then-write_line c =
    let h = line-fits _ _ _ _ _ (rw c.if-write_line.true at c.write_line.ensures) in
    search rules

pub returns-then-write_line : goal.returns-then-write_line
returns-then-write_line c = record { same_slice = refl; written = rw c.if-write_line.true at (line-put _ _ _ _ _ c.write_line.result c.write_line.ensures) }

pub returns-else-write_line : goal.returns-else-write_line
returns-else-write_line c = record { same_slice = refl; written = rw c.if-write_line.false at (line-put _ _ _ _ _ c.write_line.result c.write_line.ensures) }
