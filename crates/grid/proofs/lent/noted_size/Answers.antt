use Rattle.grid.specs.Memories.{col_width, row_height}
use Rattle.grid.specs.Implementation.Lent.{noted_size}
use Rattle.grid.proofs.lent.noted_size.Goals as goal

pub returns : goal.returns
unfolding noted_size col_width row_height
returns c pw ph = rw (c.max-2.ensures, c.entry-2.ensures, c.counted-2.ensures, c.max.ensures, c.entry.ensures, c.counted.ensures, c.max-height.ensures, c.height.ensures, c.max-width.ensures, c.width.ensures)
