use Rattle.region.specs.Regions.{expand_to_include_rect}
use Rattle.region.proofs.regions.expand_to_include_rect.Goals as goal

pub returns : goal.returns
unfolding expand_to_include_rect
returns c = rw (c.union-2.ensures, c.union.ensures)
