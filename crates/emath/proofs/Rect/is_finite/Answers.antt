use Rattle.emath.specs.Domain.{edges_of}
use Rattle.emath.proofs.Rect.is_finite.Goals as goal

pub returns : goal.returns
unfolding edges_of
returns c = rw (c.is_finite-4.ensures, c.is_finite-3.ensures, c.is_finite-2.ensures, c.is_finite.ensures)
