use Rattle.layout.specs.Rules.{justify_and_align}
use Rattle.layout.proofs.widgets.justify_and_align.Goals as goal

pub returns : goal.returns
unfolding justify_and_align
returns c = rw (c.align_size_within_rect.ensures, c.raised_to-2.ensures, c.height.ensures, c.vertical_justify.ensures, c.raised_to.ensures, c.width.ensures, c.horizontal_justify.ensures)
