use Rattle.records.proofs.Checks.{answer-says}
use Rattle.records.proofs.sheets.check.Goals as goal

pub returns : goal.returns
returns c = answer-says _ _ _ c.check_caching.ensures.0
