use Rattle.layout.specs.Rules.{new_region}
use Rattle.layout.proofs.frames.new_region.Goals as goal

pub returns : goal.returns
unfolding new_region
returns c = rw (c.reaching_to.ensures, c.is_horizontal.ensures, c.new_cursor-cursor.ensures)
