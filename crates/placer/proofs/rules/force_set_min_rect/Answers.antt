use Rattle.placer.specs.Rules.{force_set_min_rect}
use Rattle.placer.proofs.rules.force_set_min_rect.Goals as goal

pub returns : goal.returns
unfolding force_set_min_rect
returns c = rw c.with_region.ensures
