use Rattle.grid.specs.Operations.{checked_save}
use Rattle.grid.proofs.GridLayout.save_answer.Goals as goal

pub returns : goal.returns
unfolding checked_save
returns c = rw (c.saved_answer.ensures, c.save.ensures, c.fault_number-number.ensures, c.grid_fault.ensures)
