use Rattle.placer.proofs.limits.grown_across.Goals as goal

pub returns : goal.returns
returns c = rw (c.expand_to_include_x-2.ensures, c.expand_to_include_x.ensures)
