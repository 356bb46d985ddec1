use Rattle.std.proofs.Common.{◌∙◌, sym}
use Rattle.drawing.proofs.Layers.{seen_end, seen-hit, seen-turn}
use Rattle.drawing.proofs.pages.Plate.seen.Goals as goal

pub returns-then-shares : goal.returns-then-shares
returns-then-shares c = seen-hit _ _ _ _ c.loop-j.j c.loop-j-test.true (sym c.shares.ensures ∙ c.if-shares.true) ∙ c.loop-j.invariant

pub loop-j-preserved : goal.loop-j-preserved
loop-j-preserved c = sym (seen-turn _ _ _ _ c.loop-j.j c.loop-j-test.true (sym c.shares.ensures ∙ c.if-shares.false)) ∙ c.loop-j.invariant

pub returns : goal.returns
returns c = seen_end _ _ _ _ c.loop-j.j c.loop-j-test.false ∙ c.loop-j.invariant
