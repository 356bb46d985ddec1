use Rattle.std.proofs.Common.{arith}
use Rattle.listing.proofs.Puts.{entries-turn, entries-end, whole-at}
use Rattle.listing.proofs.lines.Pen.put_entries.Goals as goal

pub put_entry-requires : goal.put_entry-requires
put_entry-requires c = (omega (arith, c.requires.0), whole-at c.args.entries.now c.loop-i.i c.requires.1 c.loop-i-test.true)

pub loop-i-preserved : goal.loop-i-preserved
loop-i-preserved c = λ q h. c.loop-i.invariant q (entries-turn _ _ _ c.loop-i-test.true c.put_entry.ensures h)

pub returns : goal.returns
returns c = c.loop-i.invariant _ (entries-end _ _ _ c.loop-i-test.false)
