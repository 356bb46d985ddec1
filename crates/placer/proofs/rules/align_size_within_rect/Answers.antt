use Rattle.placer.specs.Rules.{align_size_within_rect}
use Rattle.placer.proofs.rules.align_size_within_rect.Goals as goal

pub returns-then-placer : goal.returns-then-placer
unfolding align_size_within_rect
returns-then-placer c = rw (c.if-placer.true, c.align_size_within_rect.ensures)

pub returns : goal.returns
unfolding align_size_within_rect
returns c = rw (c.if-placer.false, c.align_size_within_rect-2.ensures)
