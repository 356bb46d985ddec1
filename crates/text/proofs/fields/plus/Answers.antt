use Rattle.text.proofs.ScanTurns.{plus-far}
use Rattle.text.proofs.fields.plus.Goals as goal

pub returns-in_default : goal.returns-in_default
returns-in_default c = plus-far _ _ _ c.if-n-limit.false c.in-Some.is
