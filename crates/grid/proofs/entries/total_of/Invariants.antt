use Rattle.std.proofs.Common.{◌≡◌, drop}
use Rattle.grid.specs.Entries.{total_from, total}
use Rattle.grid.proofs.entries.total_of.Given as goal

abbrev pub invariant-loop-x : goal.invariant-loop-x
invariant-loop-x l = total_from l.sum (drop l.x-index l.entries) ≡ total l.entries
