use Rattle.std.proofs.Common.{sym, ◌∙◌}
use Rattle.emath.specs.Refusals.{pair_fault, least}
use Rattle.emath.proofs.Refusals.{pair-quick}
use Rattle.emath.proofs.faults.pair_fault.Goals as goal

pub returns-then-both_within : goal.returns-then-both_within
returns-then-both_within c = pair-quick _ _ (sym c.both_within.ensures ∙ c.if-both_within.true)

pub returns : goal.returns
unfolding pair_fault least
returns c = rw (c.beyond.ensures, c.both_finite.ensures, ← c.both_within.ensures, c.if-both_within.false)
