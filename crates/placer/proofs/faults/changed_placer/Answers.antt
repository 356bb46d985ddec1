use Rattle.placer.specs.Refusals.{changed_placer}
use Rattle.placer.proofs.faults.changed_placer.Goals as goal

pub returns : goal.returns
unfolding changed_placer
returns c = rw (c.placer_answer.ensures, c.or_else.ensures, c.outside_domain-after.ensures, c.fault_number.ensures, c.placer_fault.ensures)
