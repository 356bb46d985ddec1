use Rattle.records.proofs.Places.{beyond, there}
use Rattle.records.proofs.records.read_record.Goals as goal

pub returns-then-text-at : goal.returns-then-text-at
returns-then-text-at c = beyond _ _ _ c.if-text-at.true

pub returns : goal.returns
returns c = there _ _ _ _ c.first_record.ensures
