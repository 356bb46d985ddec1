use Rattle.std.proofs.Common.{◌≡◌, drop}
use Rattle.emath.specs.Refusals.{fault_number, lesser}
use Rattle.grid.specs.Entries.{entries_fault}
use Rattle.grid.proofs.entries.entries_fault.Given as goal

abbrev pub invariant-loop-x : goal.invariant-loop-x
invariant-loop-x l = lesser (fault_number l.fault) (entries_fault (drop l.x-index l.entries)) ≡ entries_fault l.entries
