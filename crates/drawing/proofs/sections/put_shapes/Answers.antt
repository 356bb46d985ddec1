use Rattle.drawing.specs.Pictures.{shapes}
use Rattle.drawing.proofs.Pens.{after}
use Rattle.drawing.proofs.sections.put_shapes.Goals as goal

pub returns : goal.returns
unfolding shapes
returns c = rw (← c.thickness.ensures.0, ← c.grid_widgets-count.ensures.0) (after (rw (c.own_line.ensures.0, c.own_line.ensures.1) at c.put_filled.ensures) (after c.put_each.ensures (after c.put_each-2.ensures (after c.put_each-3.ensures c.put_words.ensures))))
