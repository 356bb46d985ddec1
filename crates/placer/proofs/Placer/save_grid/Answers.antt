use Rattle.placer.specs.Operations.{checked_save_grid}
use Rattle.grid.proofs.Answers.{saved-outcome}
use Rattle.placer.proofs.Placer.save_grid.Goals as goal

pub returns : goal.returns
unfolding checked_save_grid
returns c = rw (c.answer.ensures, saved-outcome, c.save_grid.ensures, c.placer_fault.ensures)
