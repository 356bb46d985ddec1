use Rattle.std.proofs.Common.{refl}
use Rattle.layout.specs.Operations.{checked_available_rect_before_wrap, available_rect_before_wrap_number}
use Rattle.emath.proofs.Refusals.{says}
use Rattle.layout.proofs.Layout.available_rect_before_wrap.Goals as goal

pub returns : goal.returns
unfolding checked_available_rect_before_wrap available_rect_before_wrap_number
returns c = rw (c.placed.ensures, c.region_fault.ensures, c.available_rect_before_wrap-rect.ensures) (record { answer = refl; says = says _ _ _ })
