use Rattle.std.proofs.Common.{refl}
use Rattle.placer.specs.Operations.{checked_align_size_within_rect, align_size_within_rect_number}
use Rattle.emath.specs.Refusals.{least}
use Rattle.emath.proofs.Refusals.{says}
use Rattle.placer.proofs.Placer.align_size_within_rect.Goals as goal

pub returns : goal.returns
unfolding checked_align_size_within_rect align_size_within_rect_number least
returns c = rw (c.placed.ensures, c.first_of.ensures, c.placer_fault.ensures, c.first_of-rest.ensures, c.rect_fault.ensures, c.size_fault.ensures, c.align_size_within_rect-rect.ensures) (record { answer = refl; says = says _ _ _ })
