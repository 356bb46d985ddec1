use Rattle.layout.specs.Rules.{moved_down}
use Rattle.layout.proofs.frames.moved_down.Goals as goal

pub returns-then-horizontal-frame : goal.returns-then-horizontal-frame
unfolding moved_down
returns-then-horizontal-frame c = rw (c.if-horizontal-frame.true, c.translate.ensures)

pub returns-else-horizontal-frame : goal.returns-else-horizontal-frame
unfolding moved_down
returns-else-horizontal-frame c = rw c.if-horizontal-frame.false
