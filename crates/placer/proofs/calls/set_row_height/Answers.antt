use Rattle.placer.specs.Rules.{set_row_height}
use Rattle.placer.specs.Operations.{checked_set_row_height}
use Rattle.placer.proofs.calls.set_row_height.Goals as goal

pub returns : goal.returns
unfolding checked_set_row_height set_row_height
returns c pw ph ws hs e = rw (← c.length_fault.ensures, ← c.set_row_height.ensures) (c.settled.ensures pw ph ws hs e)
