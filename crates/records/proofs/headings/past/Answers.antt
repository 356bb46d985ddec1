use Rattle.records.specs.Headings.{past}
use Rattle.records.proofs.Places.{next-within}
use Rattle.records.proofs.headings.past.Goals as goal

pub returns-then-stands : goal.returns-then-stands
unfolding past
returns-then-stands c = (rw (← c.stands.ensures, c.if-stands.true) c.next_record.ensures, rw c.next_record.ensures (next-within _ _))

pub returns : goal.returns
unfolding past
returns c = (rw (← c.stands.ensures, c.if-stands.false), c.requires)
