use Rattle.layout.specs.Rules.{row_for}
use Rattle.layout.proofs.cursors.row_for.Goals as goal

pub returns-then-stays_in_row : goal.returns-then-stays_in_row
unfolding row_for
returns-then-stays_in_row c = rw (c.if-layout.true, ← c.stays_in_row.ensures, c.if-stays_in_row.true, c.union.ensures)

pub returns-else-stays_in_row : goal.returns-else-stays_in_row
unfolding row_for
returns-else-stays_in_row c = rw (c.if-layout.true, ← c.stays_in_row.ensures, c.if-stays_in_row.false, c.row_started.ensures)

pub returns-else-layout : goal.returns-else-layout
unfolding row_for
returns-else-layout c = rw (c.if-layout.false, c.grown_across.ensures, c.is_horizontal.ensures)
