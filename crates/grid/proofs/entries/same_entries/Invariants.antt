use Rattle.std.proofs.Common.{◌≡◌, ◌&&◌, drop, length}
use Rattle.grid.specs.Entries.{same_entries}
use Rattle.grid.proofs.entries.same_entries.Given as goal

abbrev pub invariant-loop-x : goal.invariant-loop-x
invariant-loop-x l = (l.same && same_entries (drop (length l.yielded) l.xs) (drop (length l.yielded) l.ys)) ≡ same_entries l.xs l.ys
