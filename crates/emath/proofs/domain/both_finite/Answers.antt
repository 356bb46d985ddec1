use Rattle.emath.specs.Domain.{both_of}
use Rattle.emath.proofs.domain.both_finite.Goals as goal

pub returns : goal.returns
unfolding both_of
returns c = rw (c.is_finite-2.ensures, c.is_finite.ensures)
