use Rattle.layout.specs.Rules.{align_size_within_rect}
use Rattle.layout.proofs.widgets.align_size_within_rect.Goals as goal

pub returns : goal.returns
unfolding align_size_within_rect
returns c = rw (c.round_ui.ensures, c.align_size_within_rect.ensures, c.align2.ensures)
