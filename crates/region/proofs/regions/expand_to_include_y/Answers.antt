use Rattle.region.specs.Regions.{expand_to_include_y}
use Rattle.region.proofs.regions.expand_to_include_y.Goals as goal

pub returns : goal.returns
unfolding expand_to_include_y
returns c = rw (c.extend_with_y-3.ensures, c.extend_with_y-2.ensures, c.extend_with_y.ensures)
