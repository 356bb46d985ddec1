use Rattle.layout.specs.Rules.{fills_height}
use Rattle.layout.proofs.Variants.{same-center}
use Rattle.layout.proofs.frames.fills_height.Goals as goal

pub returns : goal.returns
unfolding fills_height
returns c = rw (c.vertical_justify.ensures, c.eq.ensures, same-center, c.vertical_align.ensures, c.is_horizontal.ensures)
