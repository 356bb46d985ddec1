use Rattle.std.proofs.Common.{arith}
use Rattle.grid.specs.Entries.{entry}
use Rattle.grid.proofs.entries.entry.Goals as goal

pub returns-in-Some : goal.returns-in-Some
unfolding entry
returns-in-Some c = grind arith

pub returns-in-None : goal.returns-in-None
unfolding entry
returns-in-None c = grind arith
