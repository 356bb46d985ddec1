use Rattle.std.proofs.Common.{refl}
use Rattle.placer.specs.Operations.{checked_next_widget_space_ignore_wrap_justify, next_widget_space_ignore_wrap_justify_number}
use Rattle.emath.specs.Refusals.{least}
use Rattle.emath.proofs.Refusals.{says}
use Rattle.placer.proofs.Placer.next_widget_space_ignore_wrap_justify.Goals as goal

pub returns : goal.returns
unfolding checked_next_widget_space_ignore_wrap_justify next_widget_space_ignore_wrap_justify_number least
returns c = rw (c.placed.ensures, c.first_of.ensures, c.size_fault.ensures, c.placer_fault.ensures, c.next_widget_space_ignore_wrap_justify-rect.ensures) (record { answer = refl; says = says _ _ _ })
