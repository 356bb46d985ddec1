use Rattle.layout.specs.Rules.{frame_height}
use Rattle.layout.proofs.frames.frame_height.Goals as goal

pub returns-then-layout : goal.returns-then-layout
unfolding frame_height
returns-then-layout c = rw (← c.fills_height.ensures, c.if-fills_height.true, c.if-layout.true, c.max.ensures, c.height.ensures)

pub returns-then-fills_height : goal.returns-then-fills_height
unfolding frame_height
returns-then-fills_height c = rw (← c.fills_height.ensures, c.if-fills_height.true, c.if-layout.false, c.max-then-fills_height.ensures, c.height-then-fills_height.ensures)

pub returns : goal.returns
unfolding frame_height
returns c = rw (← c.fills_height.ensures, c.if-fills_height.false)
