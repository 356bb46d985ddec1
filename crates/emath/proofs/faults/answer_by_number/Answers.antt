use Rattle.std.proofs.Common.{eq-eqb, ne_eqb}
use Rattle.emath.specs.Refusals.{answer}
use Rattle.emath.proofs.faults.answer_by_number.Goals as goal

pub returns-then-n-eq0 : goal.returns-then-n-eq0
unfolding answer
returns-then-n-eq0 g c = rw (eq-eqb _ _ c.if-n-eq0.true)

pub returns-else-n-eq0 : goal.returns-else-n-eq0
unfolding answer
returns-else-n-eq0 g c = rw (ne_eqb _ _ c.if-n-eq0.false)
