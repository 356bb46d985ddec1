use Rattle.layout.specs.Rules.{set_row_height}
use Rattle.layout.proofs.cursors.set_row_height.Goals as goal

pub returns-then-layout-is_horizontal : goal.returns-then-layout-is_horizontal
unfolding set_row_height
returns-then-layout-is_horizontal c = rw (← c.is_horizontal.ensures, c.if-layout-is_horizontal.true, c.with_cursor.ensures)

pub returns-else-layout-is_horizontal : goal.returns-else-layout-is_horizontal
unfolding set_row_height
returns-else-layout-is_horizontal c = rw (← c.is_horizontal.ensures, c.if-layout-is_horizontal.false)
