use Rattle.records.proofs.Places.{next-beyond, next-short, next-there}
use Rattle.records.proofs.records.next_record.Goals as goal

pub returns-then-n-at : goal.returns-then-n-at
returns-then-n-at c = next-beyond _ _ c.if-n-at.true

pub returns-then-n-at-2 : goal.returns-then-n-at-2
returns-then-n-at-2 c = next-short _ _ _ _ c.byte.ensures c.field_count.ensures.0 c.if-n-at-2.true

pub returns : goal.returns
returns c = next-there _ _ _ _ c.byte.ensures c.field_count.ensures.0 c.if-n-at.false c.if-n-at-2.false
