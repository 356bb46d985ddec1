use Rattle.grid.specs.Operations.{checked_save}
use Rattle.grid.proofs.Answers.{saved-outcome}
use Rattle.grid.proofs.GridLayout.save.Goals as goal

pub returns : goal.returns
unfolding checked_save
returns c = rw (c.answer.ensures, saved-outcome, c.save.ensures, c.grid_fault.ensures)
