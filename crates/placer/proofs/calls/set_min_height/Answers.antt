use Rattle.emath.specs.Steps.{tick}
use Rattle.placer.specs.Implementation.Lent.{placer_of}
use Rattle.placer.specs.Operations.{checked_set_min_height}
use Rattle.placer.proofs.Kept.{min-height-region}
use Rattle.placer.proofs.calls.set_min_height.Goals as goal

pub returns : goal.returns
unfolding checked_set_min_height
returns c pw ph ws hs e = let a = c.args in let p = placer_of a.placer a.state pw ph ws hs in rw (← min-height-region tick p a.height, ← c.min_height.ensures p.has_grid p.grid, ← c.length_fault.ensures) (c.settled.ensures pw ph ws hs e)
