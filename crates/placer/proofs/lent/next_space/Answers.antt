use Rattle.placer.specs.Rules.{next_space}
use Rattle.placer.proofs.lent.next_space.Goals as goal

pub returns-then-placer : goal.returns-then-placer
unfolding next_space
returns-then-placer c ws hs = rw c.if-placer.true (c.next_cell.ensures ws hs)

pub returns : goal.returns
unfolding next_space
returns c ws hs = rw c.if-placer.false c.next_frame.ensures
