use Rattle.drawing.specs.Pictures.{height_line}
use Rattle.drawing.proofs.Pens.{after}
use Rattle.drawing.proofs.sections.put_height_line.Goals as goal

pub returns : goal.returns
unfolding height_line
returns c = rw (← c.px-w.ensures.0, ← c.px-h.ensures.0) (after c.put_numbers.ensures (after c.put_points.ensures c.put_numbers-2.ensures))
