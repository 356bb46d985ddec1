use Rattle.std.proofs.Common.{refl}
use Rattle.layout.specs.Operations.{checked_justify_and_align, justify_and_align_number}
use Rattle.emath.specs.Refusals.{least}
use Rattle.emath.proofs.Refusals.{says}
use Rattle.layout.proofs.Layout.justify_and_align.Goals as goal

pub returns : goal.returns
unfolding checked_justify_and_align justify_and_align_number least
returns c = rw (c.placed.ensures, c.first_of.ensures, c.size_fault.ensures, c.rect_fault.ensures, c.justify_and_align-widget.ensures) (record { answer = refl; says = says _ _ _ })
