use Rattle.emath.specs.Steps.{tick}
use Rattle.placer.proofs.Kept.{min-width-region}
use Rattle.placer.proofs.limits.set_min_width.Goals as goal

pub returns : goal.returns
returns c = let a = c.args in rw (c.with_region.ensures, c.min_width.ensures a.placer.has_grid a.placer.grid) (min-width-region tick a.placer a.width)
