use Rattle.std.proofs.Common.{◌≡◌, ◌+◌, ◌-◌, ◌∙◌, sym, arith}
use Rattle.drawing.proofs.Ruling.{bar-end, bar-hit, bar-turn}
use Rattle.drawing.proofs.pages.bar_of.Goals as goal

pub returns-then-bar-unit : goal.returns-then-bar-unit
returns-then-bar-unit c = (bar-hit _ (21 - c.loop.counter) c.loop.bar (omega arith) (omega arith) ∙ c.loop.invariant.1, c.loop.invariant.0)

pub loop-preserved : goal.loop-preserved
loop-preserved c =
    let e : 21 - (c.loop.counter + 1) ≡ 21 - c.loop.counter - 1 = omega arith in
    (omega arith, rw e (sym (bar-turn _ (21 - c.loop.counter) c.loop.bar (omega arith) (omega arith)) ∙ c.loop.invariant.1))

pub returns : goal.returns
returns c = (bar-end _ (21 - c.loop.counter) c.loop.bar (omega arith) ∙ c.loop.invariant.1, c.loop.invariant.0)
