use Rattle.layout.specs.Rules.{end_row}
use Rattle.layout.proofs.cursors.end_row.Goals as goal

pub returns-then-layout : goal.returns-then-layout
unfolding end_row
returns-then-layout c = rw (c.if-layout.true, c.next_row.ensures)

pub returns-else-layout : goal.returns-else-layout
unfolding end_row
returns-else-layout c = rw c.if-layout.false
