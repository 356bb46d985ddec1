use Rattle.placer.specs.Rules.{set_max_height}
use Rattle.placer.proofs.limits.set_max_height.Goals as goal

pub returns : goal.returns
unfolding set_max_height
returns c = let p = c.args.placer in rw (c.with_region.ensures, c.max_height.ensures p.has_grid p.grid)
