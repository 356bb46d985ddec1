use Rattle.placer.specs.Rules.{new_placer}
use Rattle.placer.proofs.rules.new_placer.Goals as goal

pub returns : goal.returns
unfolding new_placer
returns c = rw (c.region_from_max_rect.ensures, c.empty_grid.ensures)
