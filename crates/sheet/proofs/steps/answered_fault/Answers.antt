use Rattle.std.proofs.Common.{true, false}
use Rattle.emath.proofs.Refusals.{none-number}
use Rattle.sheet.proofs.Stepping.{answered-is}
use Rattle.sheet.proofs.steps.answered_fault.Goals as goal

pub returns-then-is_within-is_none : goal.returns-then-is_within-is_none
returns-then-is_within-is_none c = answered-is _ _ _ true (rw (none-number _ _ c.is_none.ensures, ← c.is_within-2.ensures, ← c.is_within.ensures) c.if-is_within-is_none.true)

pub returns : goal.returns
returns c = answered-is _ _ _ false (rw (none-number _ _ c.is_none.ensures, ← c.is_within-2.ensures, ← c.is_within.ensures) c.if-is_within-is_none.false)
