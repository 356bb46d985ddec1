use Rattle.std.proofs.Common.{refl}
use Rattle.layout.specs.Operations.{checked_next_widget_position, next_widget_position_number}
use Rattle.emath.proofs.Refusals.{numbered-answer, or-number, says}
use Rattle.layout.proofs.Layout.next_widget_position.Goals as goal

pub returns : goal.returns
unfolding checked_next_widget_position next_widget_position_number
returns c = rw (c.answer.ensures, numbered-answer, c.or.ensures, or-number, c.region_fault.ensures, c.outside-after.ensures, c.pair_fault.ensures, c.next_widget_position-pos.ensures) (record { answer = refl; says = says _ _ _ })
