use Rattle.placer.specs.Refusals.{advance_fault}
use Rattle.placer.proofs.faults.advance_fault.Goals as goal

pub returns : goal.returns
unfolding advance_fault
returns c = c.cell_fault.ensures
