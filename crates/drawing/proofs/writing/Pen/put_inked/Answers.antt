use Rattle.drawing.proofs.Pens.{after, nothing}
use Rattle.drawing.proofs.Pieces.{ink-end, ink-turn}
use Rattle.drawing.proofs.writing.Pen.put_inked.Goals as goal

pub loop-b-init : goal.loop-b-init
loop-b-init c = λ q h. h

pub loop-b-preserved : goal.loop-b-preserved
loop-b-preserved c = λ q h. c.loop-b.invariant q (rw (ink-turn _ _ c.loop-b-test.true) (after c.put_ink.ensures h))

pub returns : goal.returns
returns c = c.loop-b.invariant _ (rw (ink-end _ _ c.loop-b-test.false) (nothing _))
