use Rattle.grid.specs.Operations.{checked_new}
use Rattle.emath.proofs.Refusals.{or-number}
use Rattle.grid.proofs.GridLayout.new_answer.Goals as goal

pub returns : goal.returns
unfolding checked_new
returns c = rw (c.grid_answer.ensures, c.fault_number-number.ensures, c.or.ensures, or-number, c.outside.ensures, c.grid_fault.ensures, c.new_fault-before.ensures, c.memory_fault.ensures, c.known_memory.ensures, c.empty_grid.ensures, c.new_grid-new.ensures)
