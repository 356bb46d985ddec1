use Rattle.sheet.proofs.Returned.{laid-refused}
use Rattle.sheet.proofs.outcomes.refused.Goals as goal

pub returns : goal.returns
returns c = rw (laid-refused c.args.refusal c.args.at)
