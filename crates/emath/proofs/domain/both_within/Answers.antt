use Rattle.emath.specs.Domain.{both_of}
use Rattle.emath.proofs.domain.both_within.Goals as goal

pub returns : goal.returns
unfolding both_of
returns c = rw (c.is_within-2.ensures, c.is_within.ensures)
