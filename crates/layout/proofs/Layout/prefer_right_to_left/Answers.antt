use Rattle.layout.specs.Layouts.{prefer_right_to_left}
use Rattle.layout.proofs.Variants.{same-max, same-right-to-left}
use Rattle.layout.proofs.Layout.prefer_right_to_left.Goals as goal

pub returns : goal.returns
unfolding prefer_right_to_left
returns c = rw (c.eq-2.ensures, same-max, c.is_vertical.ensures, c.eq.ensures, same-right-to-left)
