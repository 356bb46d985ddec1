use Rattle.emath.specs.Domain.{edges_of}
use Rattle.emath.proofs.Rect.is_within.Goals as goal

pub returns : goal.returns
unfolding edges_of
returns c = rw (c.is_within-4.ensures, c.is_within-3.ensures, c.is_within-2.ensures, c.is_within.ensures)
