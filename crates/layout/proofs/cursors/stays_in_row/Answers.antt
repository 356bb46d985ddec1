use Rattle.layout.specs.Rules.{stays_in_row}
use Rattle.layout.proofs.cursors.stays_in_row.Goals as goal

pub returns : goal.returns
unfolding stays_in_row
returns c = rw (c.intersects.ensures, c.shrink.ensures)
