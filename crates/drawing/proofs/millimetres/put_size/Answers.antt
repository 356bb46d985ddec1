use Rattle.drawing.specs.Pictures.{size_in_millimetres}
use Rattle.drawing.proofs.Pens.{after}
use Rattle.drawing.proofs.millimetres.put_size.Goals as goal

pub returns : goal.returns
unfolding size_in_millimetres
returns c = after c.put_words.ensures (after c.put_millimetres.ensures (after c.put_words-2.ensures (after c.put_millimetres-2.ensures c.put_words-3.ensures)))
