use Rattle.region.specs.Refusals.{zero_if_open}
use Rattle.region.proofs.faults.zero_if_open.Goals as goal

pub returns-then-edge-outward : goal.returns-then-edge-outward
unfolding zero_if_open
returns-then-edge-outward c = rw c.if-edge-outward.true

pub returns-else-edge-outward : goal.returns-else-edge-outward
unfolding zero_if_open
returns-else-edge-outward c = rw c.if-edge-outward.false
