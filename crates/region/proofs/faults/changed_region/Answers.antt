use Rattle.region.specs.Operations.{changed_region}
use Rattle.region.proofs.faults.changed_region.Goals as goal

pub returns : goal.returns
unfolding changed_region
returns c = rw (c.region_answer.ensures, c.or_else.ensures, c.outside_domain-after.ensures, c.fault_number.ensures, c.region_fault.ensures)
