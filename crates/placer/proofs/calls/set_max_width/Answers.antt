use Rattle.placer.specs.Implementation.Lent.{placer_of}
use Rattle.placer.specs.Rules.{set_max_width}
use Rattle.placer.specs.Operations.{checked_set_max_width}
use Rattle.placer.proofs.calls.set_max_width.Goals as goal

pub returns : goal.returns
unfolding checked_set_max_width set_max_width
returns c pw ph ws hs e = let p = placer_of c.args.placer c.args.state pw ph ws hs in rw (← c.max_width.ensures p.has_grid p.grid, ← c.extent_fault.ensures) (c.settled.ensures pw ph ws hs e)
