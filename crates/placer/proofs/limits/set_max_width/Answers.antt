use Rattle.placer.specs.Rules.{set_max_width}
use Rattle.placer.proofs.limits.set_max_width.Goals as goal

pub returns : goal.returns
unfolding set_max_width
returns c = let p = c.args.placer in rw (c.with_region.ensures, c.max_width.ensures p.has_grid p.grid)
