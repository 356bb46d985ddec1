use Rattle.emath.specs.Steps.{tick}
use Rattle.placer.proofs.Kept.{min-height-region}
use Rattle.placer.proofs.limits.set_min_height.Goals as goal

pub returns : goal.returns
returns c = let a = c.args in rw (c.with_region.ensures, c.min_height.ensures a.placer.has_grid a.placer.grid) (min-height-region tick a.placer a.height)
