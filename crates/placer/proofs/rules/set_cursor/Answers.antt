use Rattle.placer.specs.Rules.{set_cursor}
use Rattle.placer.proofs.rules.set_cursor.Goals as goal

pub returns : goal.returns
unfolding set_cursor
returns c = rw (c.with_region.ensures, c.with_cursor.ensures)
