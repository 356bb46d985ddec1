use Rattle.std.proofs.Common.{refl}
use Rattle.drawing.proofs.Pieces.{byte_put, no_byte}
use Rattle.drawing.proofs.writing.Pen.put_byte.Goals as goal

pub returns-then-self : goal.returns-then-self
returns-then-self c = record { same_slice = refl; pieces = byte_put _ _ _ c.if-self.true }

pub returns-else-self : goal.returns-else-self
returns-else-self c = record { same_slice = refl; pieces = no_byte _ _ _ c.if-self.false }
