use Rattle.text.proofs.ScanTurns.{minus-far}
use Rattle.text.proofs.fields.minus.Goals as goal

pub returns-in_default : goal.returns-in_default
returns-in_default c = minus-far _ _ _ c.if-n-limit.false c.in-Some.is
