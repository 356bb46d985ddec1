use Rattle.drawing.specs.Drawings.{outlines}
use Rattle.drawing.proofs.Pens.{after}
use Rattle.drawing.proofs.elements.put_outlines.Goals as goal

pub returns : goal.returns
unfolding outlines
returns c = after (rw (c.line.ensures.0, c.line.ensures.1) at c.put_filled.ensures) c.put_control.ensures
