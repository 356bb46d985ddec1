use Rattle.emath.specs.Steps.{tick}
use Rattle.placer.specs.Implementation.Lent.{placer_of}
use Rattle.placer.specs.Operations.{checked_set_min_width}
use Rattle.placer.proofs.Kept.{min-width-region}
use Rattle.placer.proofs.calls.set_min_width.Goals as goal

pub returns : goal.returns
unfolding checked_set_min_width
returns c pw ph ws hs e = let a = c.args in let p = placer_of a.placer a.state pw ph ws hs in rw (← min-width-region tick p a.width, ← c.min_width.ensures p.has_grid p.grid, ← c.length_fault.ensures) (c.settled.ensures pw ph ws hs e)
