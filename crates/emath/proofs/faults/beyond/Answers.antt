use Rattle.emath.specs.Refusals.{lesser}
use Rattle.emath.proofs.faults.beyond.Goals as goal

pub returns-then-are_finite : goal.returns-then-are_finite
unfolding lesser
returns-then-are_finite c = rw c.if-are_finite.true

pub returns-else-are_finite : goal.returns-else-are_finite
unfolding lesser
returns-else-are_finite c = rw c.if-are_finite.false
