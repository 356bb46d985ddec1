use Rattle.std.proofs.Common.{le-ltb, lt-ltb, eq-eqb, ne_eqb}
use Rattle.emath.specs.Refusals.{lesser}
use Rattle.emath.proofs.faults.lesser_number.Goals as goal

pub returns-then-a-eq0 : goal.returns-then-a-eq0
unfolding lesser
returns-then-a-eq0 c = rw (eq-eqb _ _ c.if-a-eq0.true)

pub returns-then-b-eq0 : goal.returns-then-b-eq0
unfolding lesser
returns-then-b-eq0 c = rw (ne_eqb _ _ c.if-a-eq0.false, eq-eqb _ _ c.if-b-eq0.true)

pub returns-then-a-b : goal.returns-then-a-b
unfolding lesser
returns-then-a-b c = rw (ne_eqb _ _ c.if-a-eq0.false, ne_eqb _ _ c.if-b-eq0.false, lt-ltb _ _ c.if-a-b.true)

pub returns-else-a-b : goal.returns-else-a-b
unfolding lesser
returns-else-a-b c = rw (ne_eqb _ _ c.if-a-eq0.false, ne_eqb _ _ c.if-b-eq0.false, le-ltb _ _ c.if-a-b.false)
