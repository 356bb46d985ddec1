use Rattle.placer.specs.Rules.{expand_to_include_rect}
use Rattle.placer.proofs.rules.expand_to_include_rect.Goals as goal

pub returns : goal.returns
unfolding expand_to_include_rect
returns c = rw (c.with_region.ensures, c.expand_to_include_rect.ensures)
