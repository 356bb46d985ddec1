use Rattle.placer.specs.Implementation.Lent.{placer_of}
use Rattle.placer.specs.Rules.{set_max_height}
use Rattle.placer.specs.Operations.{checked_set_max_height}
use Rattle.placer.proofs.calls.set_max_height.Goals as goal

pub returns : goal.returns
unfolding checked_set_max_height set_max_height
returns c pw ph ws hs e = let p = placer_of c.args.placer c.args.state pw ph ws hs in rw (← c.max_height.ensures p.has_grid p.grid, ← c.extent_fault.ensures) (c.settled.ensures pw ph ws hs e)
