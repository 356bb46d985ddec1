use Rattle.std.proofs.Common.{sym, ◌∙◌}
use Rattle.emath.specs.Refusals.{pair_fault, size_fault, least}
use Rattle.emath.proofs.Refusals.{when-number, zero-lesser, pair-quick, far-first}
use Rattle.emath.proofs.faults.size_fault.Goals as goal

pub returns-then-both_within : goal.returns-then-both_within
unfolding size_fault least
returns-then-both_within c = rw (c.then_some.ensures, when-number, c.is_negative.ensures, ← pair-quick _ _ (sym c.both_within.ensures ∙ c.if-both_within.true), zero-lesser)

pub returns : goal.returns
unfolding size_fault pair_fault least
returns c = rw (c.pair_fault.ensures, ← c.both_within.ensures, c.if-both_within.false) (far-first _ _)
