use Rattle.drawing.specs.Pictures.{head}
use Rattle.drawing.proofs.Pens.{after}
use Rattle.drawing.proofs.sections.put_head.Goals as goal

pub returns : goal.returns
unfolding head
returns c = after c.put_numbers.ensures c.put_style.ensures
