use Rattle.emath.specs.Rectangles.{round_by}
use Rattle.emath.proofs.gui_rounding.round_by.Goals as goal

pub returns : goal.returns
unfolding round_by
returns c = rw c.round.ensures
