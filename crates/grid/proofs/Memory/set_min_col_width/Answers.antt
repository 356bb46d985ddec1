use Rattle.grid.specs.Operations.{checked_set_min_col_width}
use Rattle.emath.specs.Refusals.{least}
use Rattle.emath.proofs.Refusals.{or-number, when-number}
use Rattle.grid.proofs.Answers.{memory-outcome}
use Rattle.grid.proofs.Memory.set_min_col_width.Goals as goal

pub returns : goal.returns
unfolding checked_set_min_col_width least
returns c = rw (c.answer.ensures, memory-outcome, c.or.ensures, or-number, c.outside.ensures, c.memory_fault-2.ensures, c.first_of-before.ensures, c.memory_fault.ensures, c.first_of-rest.ensures, c.then_some.ensures, when-number, c.extent_fault.ensures, c.set_min_col_width-new.ensures)
