use Rattle.std.proofs.Common.{refl}
use Rattle.layout.specs.Operations.{checked_next_frame_ignore_wrap, next_frame_ignore_wrap_number}
use Rattle.emath.specs.Refusals.{least}
use Rattle.emath.proofs.Refusals.{says}
use Rattle.layout.proofs.Layout.next_frame_ignore_wrap.Goals as goal

pub returns : goal.returns
unfolding checked_next_frame_ignore_wrap next_frame_ignore_wrap_number least
returns c = rw (c.placed.ensures, c.first_of.ensures, c.size_fault.ensures, c.region_fault.ensures, c.next_frame_ignore_wrap-frame.ensures) (record { answer = refl; says = says _ _ _ })
