use Rattle.std.proofs.Common.{eq-eqb, ne_eqb}
use Rattle.region.specs.Refusals.{region_answer}
use Rattle.region.proofs.faults.region_answer.Goals as goal

pub returns-then-n-eq0 : goal.returns-then-n-eq0
unfolding region_answer
returns-then-n-eq0 c = rw (eq-eqb _ _ c.if-n-eq0.true)

pub returns-else-n-eq0 : goal.returns-else-n-eq0
unfolding region_answer
returns-else-n-eq0 c = rw (ne_eqb _ _ c.if-n-eq0.false)
