use Rattle.std.proofs.Common.{refl, ◌∙◌}
use Rattle.grid.proofs.Turns.{total-turn, total-end}
use Rattle.grid.proofs.entries.total_of.Goals as goal

pub loop-x-init : goal.loop-x-init
loop-x-init c = refl

pub loop-x-preserved : goal.loop-x-preserved
loop-x-preserved c = total-turn _ _ _ c.loop-x-test.true ∙ c.loop-x.invariant

pub returns : goal.returns
returns c = total-end c.args.entries.now _ _ c.loop-x-test.false ∙ c.loop-x.invariant
