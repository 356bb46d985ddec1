use Rattle.emath.proofs.Refusals.{finite-is}
use Rattle.emath.proofs.domain.is_finite.Goals as goal

pub returns : goal.returns
returns c = finite-is _
