use Rattle.std.proofs.Common.{refl}
use Rattle.grid.specs.Operations.{checked_prev_col_width}
use Rattle.emath.proofs.Refusals.{numbered-answer, says}
use Rattle.grid.proofs.GridLayout.prev_col_width.Goals as goal

pub returns : goal.returns
unfolding checked_prev_col_width
returns c = rw (c.answer.ensures, numbered-answer, c.prev_col_width.ensures, c.grid_fault.ensures) (record { answer = refl; says = says _ _ _ })
