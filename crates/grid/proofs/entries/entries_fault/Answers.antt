use Rattle.std.proofs.Common.{sym, ◌∙◌}
use Rattle.emath.proofs.Refusals.{zero-lesser}
use Rattle.grid.proofs.Turns.{fault-turn, fault-end, sound-end}
use Rattle.grid.proofs.entries.entries_fault.Goals as goal

pub returns-then-are_sound : goal.returns-then-are_sound
returns-then-are_sound c = sym (sound-end _ (sym c.are_sound.ensures ∙ c.if-are_sound.true))

pub loop-x-init : goal.loop-x-init
loop-x-init c = zero-lesser _

pub loop-x-preserved : goal.loop-x-preserved
loop-x-preserved c = rw (c.first_of-fault.ensures, c.extent_fault.ensures) (fault-turn _ _ _ c.loop-x-test.true ∙ c.loop-x.invariant)

pub returns : goal.returns
returns c = fault-end c.args.entries.now _ _ c.loop-x-test.false ∙ c.loop-x.invariant
