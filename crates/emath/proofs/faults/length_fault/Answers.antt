use Rattle.std.proofs.Common.{sym, ◌∙◌}
use Rattle.emath.specs.Refusals.{length_fault, least}
use Rattle.emath.proofs.Refusals.{length-quick}
use Rattle.emath.proofs.faults.length_fault.Goals as goal

pub returns-then-is_within : goal.returns-then-is_within
returns-then-is_within c = length-quick _ (sym c.is_within.ensures ∙ c.if-is_within.true)

pub returns : goal.returns
unfolding length_fault least
returns c = rw (c.beyond.ensures, c.is_finite.ensures, ← c.is_within.ensures, c.if-is_within.false)
