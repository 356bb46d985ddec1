use Rattle.placer.specs.Rules.{limited_down}
use Rattle.placer.proofs.limits.limited_down.Goals as goal

pub returns : goal.returns
unfolding limited_down
returns c = rw c.union-max_rect.ensures
