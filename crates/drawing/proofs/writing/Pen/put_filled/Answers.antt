use Rattle.drawing.proofs.Pens.{after, nothing}
use Rattle.drawing.proofs.Pieces.{part_end, part-turn}
use Rattle.drawing.proofs.writing.Pen.put_filled.Goals as goal

pub loop-b-init : goal.loop-b-init
loop-b-init c = λ q h. h

pub loop-b-preserved : goal.loop-b-preserved
loop-b-preserved c = λ q h. c.loop-b.invariant q (rw (part-turn _ _ _ _ _ _ c.loop-b-test.true, ← c.next-mark.ensures) (after c.put_part.ensures h))

pub returns : goal.returns
returns c = c.loop-b.invariant _ (rw (part_end _ _ _ _ _ _ c.loop-b-test.false) (nothing _))
