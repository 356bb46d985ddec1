use Rattle.std.proofs.Common.{refl}
use Rattle.layout.specs.Operations.{checked_next_widget_space_ignore_wrap_justify, next_widget_space_ignore_wrap_justify_number}
use Rattle.emath.specs.Refusals.{least}
use Rattle.emath.proofs.Refusals.{says}
use Rattle.layout.proofs.Layout.next_widget_space_ignore_wrap_justify.Goals as goal

pub returns : goal.returns
unfolding checked_next_widget_space_ignore_wrap_justify next_widget_space_ignore_wrap_justify_number least
returns c = rw (c.placed.ensures, c.first_of.ensures, c.size_fault.ensures, c.region_fault.ensures, c.next_widget_space_ignore_wrap_justify-rect.ensures) (record { answer = refl; says = says _ _ _ })
