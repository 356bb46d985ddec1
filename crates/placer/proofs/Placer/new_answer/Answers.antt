use Rattle.placer.specs.Operations.{checked_new}
use Rattle.placer.proofs.Placer.new_answer.Goals as goal

pub returns : goal.returns
unfolding checked_new
returns c = rw (c.changed_placer.ensures, c.fault_number.ensures, c.rect_fault.ensures, c.zero_placer.ensures, c.new_placer-new.ensures)
