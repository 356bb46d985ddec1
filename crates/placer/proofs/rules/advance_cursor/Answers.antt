use Rattle.placer.specs.Rules.{advance_cursor}
use Rattle.placer.proofs.rules.advance_cursor.Goals as goal

pub returns : goal.returns
unfolding advance_cursor
returns c = rw (c.with_region.ensures, c.advance_cursor.ensures)
