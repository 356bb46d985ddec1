use Rattle.drawing.specs.Pictures.{title}
use Rattle.drawing.proofs.Pens.{after}
use Rattle.drawing.proofs.sections.put_title.Goals as goal

pub returns : goal.returns
unfolding title
returns c = after c.put_words.ensures (after c.put_points.ensures (after c.put_words-2.ensures (after c.put_points-2.ensures (after c.put_in_millimetres.ensures (rw (c.own_line.ensures.0, c.own_line.ensures.1) at c.put_filled.ensures)))))
