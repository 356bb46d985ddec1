use Rattle.placer.specs.Implementation.Lent.{past_part}
use Rattle.placer.proofs.lent.past_fault.Goals as goal

pub returns : goal.returns
unfolding past_part
returns c pw ph = rw (c.first_of.ensures, c.raised_fault.ensures pw ph, c.region_fault.ensures)
