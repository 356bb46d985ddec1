use Rattle.emath.proofs.Refusals.{lesser-zero, zero-lesser, first-number}
use Rattle.emath.proofs.faults.first_of.Goals as goal

pub returns-in_default : goal.returns-in_default
returns-in_default c = rw (c.in_default.is, zero-lesser)

pub returns-in_default-b : goal.returns-in_default-b
returns-in_default-b c = rw (c.in-Some.is, c.in_default-b.is, lesser-zero)

pub returns : goal.returns
returns c = rw (c.min.ensures, c.in-Some.is, c.in-Some-b.is) (first-number _ _)
