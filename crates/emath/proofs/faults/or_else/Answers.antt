use Rattle.std.proofs.Common.{eq-eqb, ne_eqb}
use Rattle.emath.specs.Refusals.{or_else}
use Rattle.emath.proofs.faults.or_else.Goals as goal

pub returns-then-n-eq0 : goal.returns-then-n-eq0
unfolding or_else
returns-then-n-eq0 c = rw (eq-eqb _ _ c.if-n-eq0.true)

pub returns-else-n-eq0 : goal.returns-else-n-eq0
unfolding or_else
returns-else-n-eq0 c = rw (ne_eqb _ _ c.if-n-eq0.false)
