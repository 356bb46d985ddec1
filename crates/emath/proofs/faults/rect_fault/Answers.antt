use Rattle.std.proofs.Common.{sym, ◌∙◌}
use Rattle.emath.specs.Refusals.{edges_fault, rect_fault, least}
use Rattle.emath.proofs.Refusals.{when-number, zero-lesser, no-fault, far-first}
use Rattle.emath.proofs.faults.rect_fault.Goals as goal

pub returns-then-is_within : goal.returns-then-is_within
unfolding rect_fault least
returns-then-is_within c = rw (c.then_some.ensures, when-number, c.is_inside_out.ensures, ← no-fault _ (sym c.is_within.ensures ∙ c.if-is_within.true), zero-lesser)

pub returns : goal.returns
unfolding rect_fault edges_fault least
returns c = rw (c.edges_fault.ensures, ← c.is_within.ensures, c.if-is_within.false) (far-first _ _)
