use Rattle.std.proofs.Common.{refl}
use Rattle.placer.specs.Operations.{checked_available_size, available_size_number}
use Rattle.emath.proofs.Refusals.{numbered-answer, or-number, says}
use Rattle.placer.proofs.Placer.available_size.Goals as goal

pub returns : goal.returns
unfolding checked_available_size available_size_number
returns c = rw (c.answer.ensures, numbered-answer, c.or.ensures, or-number, c.placer_fault.ensures, c.outside-after.ensures, c.pair_fault.ensures, c.available_size-size.ensures) (record { answer = refl; says = says _ _ _ })
