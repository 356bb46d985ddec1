use Rattle.placer.proofs.faults.zero_placer.Goals as goal

pub returns : goal.returns
returns c = rw (c.zero_region.ensures, c.empty_grid.ensures)
