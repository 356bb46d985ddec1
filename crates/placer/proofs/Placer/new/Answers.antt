use Rattle.placer.specs.Operations.{checked_new}
use Rattle.placer.proofs.Placer.new.Goals as goal

pub returns : goal.returns
unfolding checked_new
returns c = rw (c.changed.ensures, c.rect_fault.ensures, c.new_placer-new.ensures)
