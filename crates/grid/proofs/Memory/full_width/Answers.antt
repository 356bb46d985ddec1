use Rattle.std.proofs.Common.{refl}
use Rattle.grid.specs.Operations.{checked_full_width, full_width_number}
use Rattle.emath.specs.Refusals.{least}
use Rattle.emath.proofs.Refusals.{numbered-answer, or-number, says}
use Rattle.grid.proofs.Memory.full_width.Goals as goal

pub returns : goal.returns
unfolding checked_full_width full_width_number least
returns c = rw (c.answer.ensures, numbered-answer, c.or.ensures, or-number, c.outside.ensures, c.length_fault-2.ensures, c.first_of-before.ensures, c.length_fault.ensures, c.memory_fault.ensures, c.full_width-width.ensures) (record { answer = refl; says = says _ _ _ })
