use Rattle.records.proofs.Places.{next-within}
use Rattle.records.proofs.headings.unit_at.Goals as goal

pub returns : goal.returns
returns c = (c.next_record.ensures, rw c.next_record.ensures (next-within _ _))
