use Rattle.placer.specs.Rules.{with_region}
use Rattle.placer.specs.Implementation.Lent.{placer_of}
use Rattle.placer.proofs.Unfaulted.{region-fault, changed-is}
use Rattle.std.proofs.Common.{refl}
use Rattle.emath.specs.Refusals.{fault_number}
use Rattle.emath.proofs.Refusals.{or-number}
use Rattle.placer.proofs.Answers.{state-outcome}
use Rattle.placer.proofs.calls.settled.Goals as goal

pub returns : goal.returns
returns c pw ph ws hs e = let a = c.args in let p = placer_of a.placer a.state pw ph ws hs in rw (changed-is p e (fault_number a.before) _ (with_region p a.region) (region-fault p e a.region), c.answer.ensures, state-outcome, c.or.ensures, or-number, c.outside-after.ensures, c.region_fault.ensures) refl
