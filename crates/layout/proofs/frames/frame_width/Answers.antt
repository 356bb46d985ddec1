use Rattle.layout.specs.Rules.{frame_width}
use Rattle.layout.proofs.frames.frame_width.Goals as goal

pub returns-then-layout : goal.returns-then-layout
unfolding frame_width
returns-then-layout c = rw (← c.fills_width.ensures, c.if-fills_width.true, c.if-layout.true, c.max.ensures, c.width.ensures)

pub returns-then-fills_width : goal.returns-then-fills_width
unfolding frame_width
returns-then-fills_width c = rw (← c.fills_width.ensures, c.if-fills_width.true, c.if-layout.false, c.max-then-fills_width.ensures, c.width-then-fills_width.ensures)

pub returns : goal.returns
unfolding frame_width
returns c = rw (← c.fills_width.ensures, c.if-fills_width.false)
