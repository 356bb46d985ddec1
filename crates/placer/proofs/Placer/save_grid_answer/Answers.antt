use Rattle.placer.specs.Operations.{checked_save_grid}
use Rattle.placer.proofs.Placer.save_grid_answer.Goals as goal

pub returns : goal.returns
unfolding checked_save_grid
returns c = rw (c.saved_answer.ensures, c.save_grid.ensures, c.fault_number-number.ensures, c.placer_fault.ensures)
