use Rattle.std.proofs.Common.{refl}
use Rattle.placer.specs.Operations.{checked_justify_and_align, justify_and_align_number}
use Rattle.emath.specs.Refusals.{least}
use Rattle.emath.proofs.Refusals.{says}
use Rattle.placer.proofs.Placer.justify_and_align.Goals as goal

pub returns : goal.returns
unfolding checked_justify_and_align justify_and_align_number least
returns c = rw (c.placed.ensures, c.first_of.ensures, c.placer_fault.ensures, c.first_of-rest.ensures, c.size_fault.ensures, c.rect_fault.ensures, c.justify_and_align-widget.ensures) (record { answer = refl; says = says _ _ _ })
