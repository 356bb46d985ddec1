use Rattle.emath.specs.Refusals.{least}
use Rattle.placer.specs.Rules.{advance_cursor}
use Rattle.placer.specs.Operations.{checked_advance_cursor}
use Rattle.emath.proofs.Refusals.{when-number}
use Rattle.emath.specs.declared.Refusal.TheVariants.{NotInGrid}
use Rattle.placer.proofs.calls.advance_cursor.Goals as goal

pub returns : goal.returns
unfolding checked_advance_cursor advance_cursor least
returns c pw ph ws hs e = rw (← c.length_fault.ensures, ← when-number c.args.placer.has_grid NotInGrid, ← c.then_some.ensures, ← c.first_of-before.ensures, ← c.advance_cursor.ensures) (c.settled.ensures pw ph ws hs e)
