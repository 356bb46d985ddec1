use Rattle.layout.specs.Rules.{new_row}
use Rattle.layout.proofs.frames.new_row.Goals as goal

pub returns : goal.returns
unfolding new_row
returns c = rw (c.max-new_row_height.ensures, c.height.ensures)
