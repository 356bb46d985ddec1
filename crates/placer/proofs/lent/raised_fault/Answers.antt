use Rattle.placer.specs.Implementation.Lent.{raised_part}
use Rattle.placer.proofs.lent.raised_fault.Goals as goal

pub returns-then-placer : goal.returns-then-placer
unfolding raised_part
returns-then-placer c pw ph = rw (c.if-placer.true, c.first_of.ensures, c.extent_fault-then-placer.ensures, c.extent_fault.ensures, c.noted_size-size.ensures pw ph)

pub returns : goal.returns
unfolding raised_part
returns c pw ph = rw c.if-placer.false
