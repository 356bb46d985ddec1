use Rattle.placer.specs.Rules.{set_row_height}
use Rattle.placer.proofs.rules.set_row_height.Goals as goal

pub returns : goal.returns
unfolding set_row_height
returns c = rw (c.with_region.ensures, c.set_row_height.ensures)
