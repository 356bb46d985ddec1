use Rattle.drawing.specs.Pictures.{key}
use Rattle.drawing.proofs.Pens.{after}
use Rattle.drawing.proofs.sections.put_key.Goals as goal

pub returns : goal.returns
unfolding key
returns c = rw (← c.bottom.ensures.0) (after c.put_numbers.ensures (after c.put_each.ensures (after c.put_plate_row.ensures (after c.put_each-2.ensures (after c.put_each-3.ensures c.put_words.ensures)))))
