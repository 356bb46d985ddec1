use Rattle.emath.specs.Refusals.{least}
use Rattle.placer.specs.Implementation.Lent.{placer_of}
use Rattle.placer.proofs.Parts.{row-ended-plain}
use Rattle.placer.specs.Refusals.{end_row_fault}
use Rattle.placer.specs.Operations.{checked_end_row}
use Rattle.placer.proofs.calls.end_row.Goals as goal

pub returns-then-placer : goal.returns-then-placer
unfolding checked_end_row end_row_fault least
returns-then-placer c pw ph ws e = let a = c.args in rw (← c.pair_fault.ensures, ← c.row_fault.ensures, ← c.first_of-before.ensures) (c.row_ended.ensures pw ph ws a.item_spacing c.if-placer.true e)

pub returns : goal.returns
unfolding checked_end_row end_row_fault least
returns c pw ph ws e = let a = c.args in let p = placer_of a.placer a.state pw ph ws a.heights.now in rw (row-ended-plain p a.item_spacing c.if-placer.false, ← c.pair_fault.ensures, ← c.row_fault.ensures, ← c.first_of-before.ensures, ← c.end_row.ensures) (c.settled.ensures pw ph ws a.heights.now e)
