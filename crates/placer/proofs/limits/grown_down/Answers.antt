use Rattle.placer.proofs.limits.grown_down.Goals as goal

pub returns : goal.returns
returns c = rw (c.expand_to_include_y-2.ensures, c.expand_to_include_y.ensures)
