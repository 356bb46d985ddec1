use Rattle.drawing.specs.Pictures.{accepted}
use Rattle.drawing.proofs.Pens.{after}
use Rattle.drawing.proofs.picture.put_accepted.Goals as goal

pub returns : goal.returns
unfolding accepted
returns c = rw (← c.page_width.ensures, ← c.page_height.ensures) (after c.put_head.ensures (after c.put_title.ensures (after c.put_picture.ensures c.put_key.ensures)))
