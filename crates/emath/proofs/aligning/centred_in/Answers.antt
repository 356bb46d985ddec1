use Rattle.std.specs.Float.Ieee.{of_bits}
use Rattle.emath.specs.Rectangles.{centred}
use Rattle.emath.proofs.aligning.centred_in.Goals as goal

pub returns-then-is_infinite : goal.returns-then-is_infinite
unfolding centred of_bits
returns-then-is_infinite c = rw (← c.is_infinite.ensures, c.if-is_infinite.true)

pub returns : goal.returns
unfolding centred
returns c = rw (← c.is_infinite.ensures, c.if-is_infinite.false)
