use Rattle.region.specs.Operations.{placed_number}
use Rattle.emath.proofs.Refusals.{numbered-answer, or-number}
use Rattle.region.proofs.faults.placed.Goals as goal

pub returns : goal.returns
unfolding placed_number
returns c = rw (c.answer.ensures, numbered-answer, c.or.ensures, or-number, c.outside.ensures, c.edges_fault.ensures)
