use Rattle.placer.specs.Operations.{checked_expand_to_include_rect}
use Rattle.emath.specs.Refusals.{least}
use Rattle.placer.proofs.Placer.expand_to_include_rect.Goals as goal

pub returns : goal.returns
unfolding checked_expand_to_include_rect least
returns c = rw (c.changed.ensures, c.first_of.ensures, c.rect_fault.ensures, c.placer_fault.ensures, c.expand_to_include_rect-new.ensures)
