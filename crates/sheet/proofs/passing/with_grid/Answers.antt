use Rattle.std.proofs.Common.{refl, sym}
use Rattle.emath.proofs.Refusals.{number-none}
use Rattle.sheet.proofs.Stepping.{grid-set-none}
use Rattle.sheet.proofs.WalkedPasses.{refused-answers, began-answers}
use Rattle.sheet.proofs.passing.with_grid.Goals as goal

pub go_on-requires : goal.go_on-requires
go_on-requires c =
    let s = rw c.in-Ok.is at c.grid_set.ensures in
    record { placer_value = grid-set-none _ _ _ _ _ (record { number = 0; placer = c.in-Ok.p }) (sym s) refl; room = c.requires }

pub returns-in-Ok : goal.returns-in-Ok
returns-in-Ok c = let s = rw c.in-Ok.is at c.grid_set.ensures in rw s (began-answers _ _ _ _ _ _ _ _ refl c.go_on.ensures)

pub returns-in-Err : goal.returns-in-Err
returns-in-Err c = let s = rw c.in-Err.is at c.grid_set.ensures in refused-answers _ _ _ _ _ _ _ (number-none _ _ s) (rw s c.refused.ensures)
