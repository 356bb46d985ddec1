use Rattle.std.proofs.Common.{refl}
use Rattle.placer.specs.Operations.{checked_available_rect_before_wrap, available_rect_before_wrap_number}
use Rattle.emath.proofs.Refusals.{says}
use Rattle.placer.proofs.Placer.available_rect_before_wrap.Goals as goal

pub returns : goal.returns
unfolding checked_available_rect_before_wrap available_rect_before_wrap_number
returns c = rw (c.placed.ensures, c.available_rect_before_wrap.ensures, c.placer_fault.ensures) (record { answer = refl; says = says _ _ _ })
