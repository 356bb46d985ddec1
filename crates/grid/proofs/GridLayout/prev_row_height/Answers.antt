use Rattle.std.proofs.Common.{refl}
use Rattle.grid.specs.Operations.{checked_prev_row_height}
use Rattle.emath.proofs.Refusals.{numbered-answer, says}
use Rattle.grid.proofs.GridLayout.prev_row_height.Goals as goal

pub returns : goal.returns
unfolding checked_prev_row_height
returns c = rw (c.answer.ensures, numbered-answer, c.prev_row_height.ensures, c.grid_fault.ensures) (record { answer = refl; says = says _ _ _ })
