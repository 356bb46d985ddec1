use Rattle.grid.specs.Refusals.{memory_fault}
use Rattle.emath.specs.Refusals.{least}
use Rattle.emath.proofs.Refusals.{when-number}
use Rattle.grid.proofs.faults.memory_fault.Goals as goal

pub returns : goal.returns
unfolding memory_fault least
returns c = rw (c.first_of-3.ensures, c.first_of-2.ensures, c.first_of.ensures, c.then_some-2.ensures, when-number, c.then_some.ensures, when-number, c.entries_fault-2.ensures, c.counted-2.ensures, c.entries_fault.ensures, c.counted.ensures)
