use Rattle.emath.specs.Refusals.{or_else}
use Rattle.emath.proofs.Refusals.{number-some}
use Rattle.sheet.specs.Pass.{grid_set, grid_of}
use Rattle.sheet.proofs.WalkedPasses.{refused-sets, outcome-sets}
use Rattle.sheet.proofs.outcomes.grid_set.Goals as goal

pub returns-in_err-grid : goal.returns-in_err-grid
unfolding grid_set grid_of or_else
returns-in_err-grid c =
    let g = rw c.in_err-grid.was at c.new.ensures in
    refused-sets _ _ c.in_err-grid.field-0.0 c.from_residual.ensures.1 (rw (← g, number-some c.in_err-grid.field-0.0))

pub returns : goal.returns
unfolding grid_set grid_of or_else
returns c = let g = rw c.in_ok-grid.was at c.new.ensures in rw (← g) (outcome-sets _ _ _ c.set_grid.ensures)
