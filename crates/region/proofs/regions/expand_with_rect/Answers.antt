use Rattle.region.specs.Regions.{expand_to_include_rect}
use Rattle.region.proofs.regions.expand_with_rect.Goals as goal

pub returns : goal.returns
unfolding expand_to_include_rect
returns c = rw (c.union_with-2.ensures, c.union_with.ensures)
