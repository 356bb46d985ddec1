use Rattle.region.specs.Regions.{expand_to_include_x}
use Rattle.region.proofs.regions.expand_to_include_x.Goals as goal

pub returns : goal.returns
unfolding expand_to_include_x
returns c = rw (c.extend_with_x-3.ensures, c.extend_with_x-2.ensures, c.extend_with_x.ensures)
