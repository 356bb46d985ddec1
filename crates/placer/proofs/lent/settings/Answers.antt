use Rattle.placer.proofs.lent.settings.Goals as goal

pub returns : goal.returns
returns c = rw c.settings.ensures
