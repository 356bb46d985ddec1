use Rattle.layout.specs.Rules.{new_column}
use Rattle.layout.proofs.frames.new_column.Goals as goal

pub returns : goal.returns
unfolding new_column
returns c = rw (c.max-new_col_width.ensures, c.width.ensures)
