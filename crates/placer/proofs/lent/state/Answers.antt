use Rattle.placer.proofs.lent.state.Goals as goal

pub returns : goal.returns
returns c = rw c.state.ensures
