use Rattle.std.proofs.Common.{refl}
use Rattle.placer.specs.Operations.{checked_next_widget_position, next_widget_position_number}
use Rattle.emath.proofs.Refusals.{numbered-answer, or-number, says}
use Rattle.placer.proofs.Placer.next_widget_position.Goals as goal

pub returns : goal.returns
unfolding checked_next_widget_position next_widget_position_number
returns c = rw (c.answer.ensures, numbered-answer, c.or.ensures, or-number, c.placer_fault.ensures, c.outside-after.ensures, c.pair_fault.ensures, c.next_widget_position-pos.ensures) (record { answer = refl; says = says _ _ _ })
