use Rattle.grid.specs.Refusals.{grid_fault}
use Rattle.emath.specs.Refusals.{least}
use Rattle.emath.proofs.Refusals.{when-number}
use Rattle.grid.proofs.faults.grid_fault.Goals as goal

pub returns : goal.returns
unfolding grid_fault least
returns c = rw (c.first_of-2.ensures, c.first_of.ensures, c.memory_fault-2.ensures, c.memory_fault.ensures, c.first_of-rest.ensures, c.edges_fault.ensures, c.first_of-spacing.ensures, c.pair_fault.ensures, c.first_of-least.ensures, c.size_fault.ensures, c.first_of-most.ensures, c.max_cell_fault.ensures, c.first_of-places.ensures, c.then_some-2.ensures, when-number, c.then_some.ensures, when-number)
