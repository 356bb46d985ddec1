use Rattle.std.proofs.Common.{eq-eqb, ne_eqb}
use Rattle.emath.specs.Refusals.{outside}
use Rattle.emath.proofs.faults.outside_domain.Goals as goal

pub returns-then-n-eq0 : goal.returns-then-n-eq0
unfolding outside
returns-then-n-eq0 c = rw (eq-eqb _ _ c.if-n-eq0.true)

pub returns-else-n-eq0 : goal.returns-else-n-eq0
unfolding outside
returns-else-n-eq0 c = rw (c.number.ensures, ne_eqb _ _ c.if-n-eq0.false)
