use Rattle.placer.specs.Rules.{limited_across}
use Rattle.placer.proofs.limits.limited_across.Goals as goal

pub returns : goal.returns
unfolding limited_across
returns c = rw c.union-max_rect.ensures
