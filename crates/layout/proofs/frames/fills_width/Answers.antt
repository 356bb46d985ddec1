use Rattle.layout.specs.Rules.{fills_width}
use Rattle.layout.proofs.Variants.{same-center}
use Rattle.layout.proofs.frames.fills_width.Goals as goal

pub returns : goal.returns
unfolding fills_width
returns c = rw (c.horizontal_justify.ensures, c.eq.ensures, same-center, c.horizontal_align.ensures, c.is_vertical.ensures)
