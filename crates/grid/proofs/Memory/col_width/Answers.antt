use Rattle.std.proofs.Common.{refl}
use Rattle.grid.specs.Operations.{checked_col_width}
use Rattle.grid.proofs.Answers.{numbered-entry, col-says}
use Rattle.grid.proofs.Memory.col_width.Goals as goal

pub returns : goal.returns
unfolding checked_col_width
returns c = let a = c.args in rw (c.answer.ensures, c.then_some.ensures, numbered-entry, c.col_width-width.ensures, c.memory_fault.ensures) (record { answer = refl; says = col-says _ a.self a.col })
