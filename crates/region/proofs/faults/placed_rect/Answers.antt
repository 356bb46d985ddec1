use Rattle.region.specs.Operations.{placed_number}
use Rattle.region.proofs.faults.placed_rect.Goals as goal

pub returns : goal.returns
unfolding placed_number
returns c = rw (c.answer_by_number.ensures, c.or_else.ensures, c.outside_domain-after.ensures, c.fault_number.ensures, c.edges_fault.ensures)
