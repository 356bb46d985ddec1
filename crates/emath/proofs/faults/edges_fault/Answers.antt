use Rattle.std.proofs.Common.{sym, ◌∙◌}
use Rattle.emath.specs.Refusals.{edges_fault, least}
use Rattle.emath.proofs.Refusals.{no-fault}
use Rattle.emath.proofs.faults.edges_fault.Goals as goal

pub returns-then-is_within : goal.returns-then-is_within
returns-then-is_within c = no-fault _ (sym c.is_within.ensures ∙ c.if-is_within.true)

pub returns : goal.returns
unfolding edges_fault least
returns c = rw (c.beyond.ensures, c.is_finite.ensures, ← c.is_within.ensures, c.if-is_within.false)
