use Rattle.layout.specs.Layouts.{align2}
use Rattle.layout.proofs.Layout.align2.Goals as goal

pub returns : goal.returns
unfolding align2
returns c = rw (c.vertical_align.ensures, c.horizontal_align.ensures)
