use Rattle.std.proofs.Common.{refl}
use Rattle.placer.specs.Operations.{checked_next_space, next_space_number}
use Rattle.emath.specs.Refusals.{least}
use Rattle.emath.proofs.Refusals.{says}
use Rattle.placer.proofs.Placer.next_space.Goals as goal

pub returns : goal.returns
unfolding checked_next_space next_space_number least
returns c = rw (c.placed.ensures, c.first_of.ensures, c.placer_fault.ensures, c.first_of-rest.ensures, c.pair_fault.ensures, c.size_fault.ensures, c.next_space-frame.ensures) (record { answer = refl; says = says _ _ _ })
