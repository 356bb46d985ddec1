use Rattle.drawing.specs.Drawings.{label}
use Rattle.drawing.proofs.elements.put_label.Goals as goal

pub returns-else-covers-2 : goal.returns-else-covers-2
unfolding label
returns-else-covers-2 c = rw (← c.covers.ensures, ← c.covers-else-covers.ensures, c.if-covers.false, c.if-covers-2.false, ← c.label_across-x.ensures, ← c.label_down-y.ensures.0) (rw (c.line-else-covers-2.ensures.0, c.line-else-covers-2.ensures.1) at c.put_filled-else-covers-2.ensures)
