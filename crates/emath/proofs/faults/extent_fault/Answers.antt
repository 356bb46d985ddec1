use Rattle.std.proofs.Common.{sym, ◌∙◌}
use Rattle.emath.specs.Refusals.{length_fault, extent_fault, least}
use Rattle.emath.proofs.Refusals.{when-number, zero-lesser, length-quick, far-first}
use Rattle.emath.proofs.faults.extent_fault.Goals as goal

pub returns-then-is_within : goal.returns-then-is_within
unfolding extent_fault least
returns-then-is_within c = rw (c.then_some.ensures, when-number, ← length-quick _ (sym c.is_within.ensures ∙ c.if-is_within.true), zero-lesser)

pub returns : goal.returns
unfolding extent_fault length_fault least
returns c = rw (c.length_fault.ensures, ← c.is_within.ensures, c.if-is_within.false) (far-first _ _)
