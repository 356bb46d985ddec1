use Rattle.drawing.specs.Pictures.{scale_line}
use Rattle.drawing.proofs.Pens.{after}
use Rattle.drawing.proofs.sections.put_scale_line.Goals as goal

pub returns : goal.returns
unfolding scale_line
returns c = rw (← c.bottom-end.ensures.0, ← c.px-b.ensures.0) (after c.put_numbers.ensures (after c.put_points.ensures c.put_numbers-2.ensures))
