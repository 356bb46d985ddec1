use Rattle.placer.specs.Rules.{end_row}
use Rattle.placer.proofs.rules.end_row.Goals as goal

pub returns-then-placer : goal.returns-then-placer
unfolding end_row
returns-then-placer c = rw (c.set_grid.ensures, c.set_cursor.ensures, c.end_row-m.ensures, c.if-placer.true)

pub returns : goal.returns
unfolding end_row
returns c = rw (c.with_region.ensures, c.end_row.ensures, c.if-placer.false)
