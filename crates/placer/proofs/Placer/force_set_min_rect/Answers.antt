use Rattle.placer.specs.Operations.{checked_force_set_min_rect}
use Rattle.emath.specs.Refusals.{least}
use Rattle.placer.proofs.Placer.force_set_min_rect.Goals as goal

pub returns : goal.returns
unfolding checked_force_set_min_rect least
returns c = rw (c.changed.ensures, c.first_of.ensures, c.rect_fault.ensures, c.placer_fault.ensures, c.force_set_min_rect-new.ensures)
