use Rattle.placer.specs.Implementation.Lent.{placer_of}
use Rattle.placer.proofs.Parts.{past-grid, past-plain}
use Rattle.placer.proofs.lent.advance.Goals as goal

pub returns-then-placer : goal.returns-then-placer
returns-then-placer c pw ph f sp e = let a = c.args in rw (c.advance-grid.ensures pw ph a.state.region.cursor) (past-grid (placer_of a.placer a.state pw ph a.widths.now a.heights.now) f a.widget_rect sp a.region c.if-placer.true e)

pub returns : goal.returns
returns c pw ph f sp e = let a = c.args in past-plain (placer_of a.placer a.state pw ph a.widths.now a.heights.now) f a.widget_rect sp a.region c.if-placer.false e
