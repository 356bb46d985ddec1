use Rattle.layout.specs.Operations.{checked_region_from_max_rect}
use Rattle.layout.proofs.Layout.region_from_max_rect_answer.Goals as goal

pub returns : goal.returns
unfolding checked_region_from_max_rect
returns c = rw (c.changed_region.ensures, c.fault_number-before.ensures, c.rect_fault.ensures, c.zero_region.ensures, c.region_from_max_rect-new.ensures)
