use Rattle.std.specs.Float.Ieee.{of_bits}
use Rattle.grid.specs.Refusals.{max_cell_fault}
use Rattle.grid.proofs.faults.max_cell_fault.Goals as goal

pub returns : goal.returns
unfolding max_cell_fault of_bits
returns c = rw (c.size_fault.ensures, c.zero_if_open-2.ensures, c.zero_if_open.ensures)
