use Rattle.std.proofs.Common.{◌∙◌, sym, arith}
use Rattle.drawing.proofs.Ruling.{bands-end, bands-hit, bands-turn}
use Rattle.drawing.proofs.pages.bands_from.Goals as goal

pub returns-then-k-short : goal.returns-then-k-short
returns-then-k-short c = (bands-hit _ _ c.loop-k.k c.loop-k-test.true c.if-k-short.true ∙ c.loop-k.invariant, omega arith, omega arith)

pub loop-k-preserved : goal.loop-k-preserved
loop-k-preserved c = sym (bands-turn _ _ c.loop-k.k c.loop-k-test.true c.if-k-short.false) ∙ c.loop-k.invariant

pub returns : goal.returns
returns c = (bands-end _ _ c.loop-k.k (omega arith) ∙ c.loop-k.invariant, omega arith, omega arith)
