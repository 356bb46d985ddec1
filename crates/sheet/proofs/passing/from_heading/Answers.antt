use Rattle.std.proofs.Common.{refl}
use Rattle.emath.proofs.Refusals.{number-none}
use Rattle.sheet.specs.Pass.{headed}
use Rattle.sheet.proofs.Stepping.{headed-none}
use Rattle.sheet.proofs.WalkedPasses.{refused-answers, began-answers, with-grid-answers, without-grid-answers, pass-answers}
use Rattle.sheet.proofs.passing.from_heading.Goals as goal

pub returns-in-Err : goal.returns-in-Err
unfolding headed
returns-in-Err c = let s = rw c.in-Err.is at c.new.ensures in pass-answers _ _ _ _ _ _ _ (rw (← s) (refused-answers _ _ _ _ _ _ _ (number-none _ c.in-Err.refusal refl) c.refused.ensures))

pub with_grid-requires : goal.with_grid-requires
with_grid-requires c = c.requires

pub returns-then-heading : goal.returns-then-heading
unfolding headed
returns-then-heading c = let s = rw c.in-Ok.is at c.new.ensures in pass-answers _ _ _ _ _ _ _ (rw (← s) (began-answers _ _ _ _ _ _ _ _ refl (with-grid-answers _ _ _ _ _ _ _ _ c.if-heading.true c.with_grid.ensures)))

pub go_on-requires : goal.go_on-requires
go_on-requires c =
    let s = rw c.in-Ok.is at c.new.ensures in
    record { placer_value = headed-none _ _ _ (record { number = 0; placer = c.in-Ok.p }) s refl; room = c.requires }

pub returns : goal.returns
unfolding headed
returns c = let s = rw c.in-Ok.is at c.new.ensures in pass-answers _ _ _ _ _ _ _ (rw (← s) (began-answers _ _ _ _ _ _ _ _ refl (without-grid-answers _ _ _ _ _ _ _ _ c.if-heading.false c.go_on.ensures)))
