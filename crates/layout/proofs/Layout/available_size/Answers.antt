use Rattle.std.proofs.Common.{refl}
use Rattle.layout.specs.Operations.{checked_available_size, available_size_number}
use Rattle.emath.proofs.Refusals.{numbered-answer, or-number, says}
use Rattle.layout.proofs.Layout.available_size.Goals as goal

pub returns : goal.returns
unfolding checked_available_size available_size_number
returns c = rw (c.answer.ensures, numbered-answer, c.or.ensures, or-number, c.region_fault.ensures, c.outside-after.ensures, c.pair_fault.ensures, c.available_size-size.ensures) (record { answer = refl; says = says _ _ _ })
