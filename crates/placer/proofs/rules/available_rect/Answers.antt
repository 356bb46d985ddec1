use Rattle.placer.specs.Rules.{available}
use Rattle.placer.proofs.rules.available_rect.Goals as goal

pub returns-then-placer : goal.returns-then-placer
unfolding available
returns-then-placer c = rw (c.if-placer.true, c.available_rect.ensures)

pub returns : goal.returns
unfolding available
returns c = rw (c.if-placer.false, c.available_rect_before_wrap.ensures)
