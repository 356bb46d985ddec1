use Rattle.std.proofs.Common.{refl}
use Rattle.grid.specs.Operations.{checked_row_height}
use Rattle.grid.proofs.Answers.{numbered-entry, row-says}
use Rattle.grid.proofs.Memory.row_height.Goals as goal

pub returns : goal.returns
unfolding checked_row_height
returns c = let a = c.args in rw (c.answer.ensures, c.then_some.ensures, numbered-entry, c.row_height-height.ensures, c.memory_fault.ensures) (record { answer = refl; says = row-says _ a.self a.row })
