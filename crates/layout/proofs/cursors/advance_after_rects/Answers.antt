use Rattle.layout.specs.Rules.{advance_after_rects}
use Rattle.layout.proofs.cursors.advance_after_rects.Goals as goal

pub returns : goal.returns
unfolding advance_after_rects
returns c = rw (c.past_widget.ensures, c.row_for.ensures)
