use Rattle.placer.specs.Rules.{available_size}
use Rattle.placer.proofs.rules.available_size.Goals as goal

pub returns-then-placer : goal.returns-then-placer
unfolding available_size
returns-then-placer c = rw (c.if-placer.true, c.size.ensures, c.available_rect.ensures)

pub returns : goal.returns
unfolding available_size
returns c = rw (c.if-placer.false, c.available_size.ensures)
