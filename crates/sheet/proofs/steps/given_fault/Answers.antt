use Rattle.emath.specs.Refusals.{least}
use Rattle.placer.specs.Refusals.{advance_fault}
use Rattle.sheet.specs.Implementation.Calls.{given_number}
use Rattle.sheet.proofs.steps.given_fault.Goals as goal

pub returns : goal.returns
unfolding given_number advance_fault least
returns c pw ph ws hs = rw (c.first_of-2.ensures, c.first_of.ensures, c.pair_fault.ensures, c.size_fault.ensures, c.cell_fault-place.ensures)
