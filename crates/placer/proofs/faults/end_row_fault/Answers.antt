use Rattle.placer.specs.Refusals.{end_row_fault}
use Rattle.placer.proofs.faults.end_row_fault.Goals as goal

pub returns : goal.returns
unfolding end_row_fault
returns c = c.row_fault.ensures
