use Rattle.drawing.specs.Pictures.{picture}
use Rattle.drawing.proofs.Pens.{after}
use Rattle.drawing.proofs.sections.put_picture.Goals as goal

pub returns : goal.returns
unfolding picture
returns c = after c.put_shapes.ensures (after c.put_each.ensures (after c.put_dimensions.ensures (after c.put_each-2.ensures c.put_scale.ensures)))
