use Rattle.std.proofs.Common.{eq-eqb, ne_eqb}
use Rattle.placer.specs.Refusals.{placer_answer}
use Rattle.placer.proofs.faults.placer_answer.Goals as goal

pub returns-then-n-eq0 : goal.returns-then-n-eq0
unfolding placer_answer
returns-then-n-eq0 c = rw (eq-eqb _ _ c.if-n-eq0.true)

pub returns-else-n-eq0 : goal.returns-else-n-eq0
unfolding placer_answer
returns-else-n-eq0 c = rw (ne_eqb _ _ c.if-n-eq0.false)
