use Rattle.std.proofs.Common.{eq-eqb, ne_eqb}
use Rattle.grid.specs.Refusals.{saved_answer}
use Rattle.grid.proofs.faults.saved_answer.Goals as goal

pub returns-then-n-eq0 : goal.returns-then-n-eq0
unfolding saved_answer
returns-then-n-eq0 c = rw (eq-eqb _ _ c.if-n-eq0.true)

pub returns : goal.returns
unfolding saved_answer
returns c = rw (ne_eqb _ _ c.if-n-eq0.false)
