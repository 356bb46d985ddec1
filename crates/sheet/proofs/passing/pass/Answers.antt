use Rattle.sheet.proofs.passing.pass.Goals as goal

pub returns : goal.returns
returns c = c.pass_caching.ensures.0
