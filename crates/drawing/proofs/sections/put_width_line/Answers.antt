use Rattle.drawing.specs.Pictures.{width_line}
use Rattle.drawing.proofs.Pens.{after}
use Rattle.drawing.proofs.sections.put_width_line.Goals as goal

pub returns : goal.returns
unfolding width_line
returns c = rw (← c.px-w.ensures.0) (after c.put_numbers.ensures (after c.put_points.ensures c.put_numbers-2.ensures))
