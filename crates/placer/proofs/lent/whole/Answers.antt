use Rattle.placer.proofs.lent.whole.Goals as goal

pub returns : goal.returns
returns c = rw c.whole.ensures
