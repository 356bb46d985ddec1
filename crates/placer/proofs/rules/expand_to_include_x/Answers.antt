use Rattle.placer.specs.Rules.{expand_to_include_x}
use Rattle.placer.proofs.rules.expand_to_include_x.Goals as goal

pub returns : goal.returns
unfolding expand_to_include_x
returns c = rw (c.with_region.ensures, c.expand_to_include_x.ensures)
