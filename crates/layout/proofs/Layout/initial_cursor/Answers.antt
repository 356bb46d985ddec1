use Rattle.std.proofs.Common.{refl}
use Rattle.layout.specs.Operations.{checked_initial_cursor, initial_cursor_number}
use Rattle.emath.proofs.Refusals.{numbered-answer, or-number, says}
use Rattle.layout.proofs.Layout.initial_cursor.Goals as goal

pub returns : goal.returns
unfolding checked_initial_cursor initial_cursor_number
returns c = rw (c.answer.ensures, numbered-answer, c.or.ensures, or-number, c.rect_fault.ensures, c.outside-after.ensures, c.cursor_fault.ensures, c.initial_cursor-cursor.ensures) (record { answer = refl; says = says _ _ _ })
