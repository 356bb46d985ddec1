use Rattle.layout.specs.Rules.{not_negative_rect}
use Rattle.layout.proofs.available.not_negative_rect.Goals as goal

pub returns : goal.returns
unfolding not_negative_rect
returns c = rw (c.not_negative-down.ensures, c.not_negative-across.ensures)
