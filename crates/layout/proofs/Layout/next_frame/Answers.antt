use Rattle.std.proofs.Common.{refl}
use Rattle.layout.specs.Operations.{checked_next_frame, next_frame_number}
use Rattle.emath.specs.Refusals.{least}
use Rattle.emath.proofs.Refusals.{says}
use Rattle.layout.proofs.Layout.next_frame.Goals as goal

pub returns : goal.returns
unfolding checked_next_frame next_frame_number least
returns c = rw (c.placed.ensures, c.first_of.ensures, c.region_fault.ensures, c.first_of-sizes.ensures, c.pair_fault.ensures, c.size_fault.ensures, c.next_frame-frame.ensures) (record { answer = refl; says = says _ _ _ })
