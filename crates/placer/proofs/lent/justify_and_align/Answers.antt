use Rattle.placer.specs.Rules.{justify_and_align}
use Rattle.placer.proofs.lent.justify_and_align.Goals as goal

pub returns-then-placer : goal.returns-then-placer
unfolding justify_and_align
returns-then-placer c pw ph ws hs = rw c.if-placer.true c.align_size_within_rect.ensures

pub returns : goal.returns
unfolding justify_and_align
returns c pw ph ws hs = rw c.if-placer.false c.justify_and_align.ensures
