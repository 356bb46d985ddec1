use Rattle.emath.specs.Refusals.{least}
use Rattle.emath.proofs.Refusals.{when-number}
use Rattle.grid.proofs.operations.new_fault.Goals as goal

pub returns : goal.returns
unfolding least
returns c = rw (c.first_of-2.ensures, c.region_fault.ensures, c.first_of.ensures, c.first_of-options.ensures, c.pair_fault.ensures, c.first_of-least.ensures, c.size_fault.ensures, c.first_of-most.ensures, c.max_cell_fault.ensures, c.first_of-place.ensures, c.then_some.ensures, when-number, c.direction_fault.ensures)
