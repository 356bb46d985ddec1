use Rattle.placer.specs.Implementation.Lent.{placer_of}
use Rattle.placer.proofs.Unfaulted.{row-ended-is}
use Rattle.emath.proofs.Refusals.{or-number}
use Rattle.emath.specs.Refusals.{fault_number}
use Rattle.placer.proofs.Answers.{state-outcome}
use Rattle.placer.proofs.calls.row_ended.Goals as goal

pub returns : goal.returns
returns c pw ph ws sp on e = let a = c.args in let p = placer_of a.placer a.state pw ph ws a.heights.now in rw (c.answer.ensures, state-outcome, c.or.ensures, or-number, c.outside-after.ensures, c.region_fault.ensures, c.end_row-grid.ensures a.placer.grid pw ph ws a.heights.now a.state.region.cursor, c.with_cursor-region.ensures, c.ended_cursor.ensures pw ph ws) (row-ended-is p e on (fault_number a.before) sp)
