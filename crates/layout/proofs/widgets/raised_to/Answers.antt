use Rattle.layout.specs.Rules.{raised}
use Rattle.layout.proofs.widgets.raised_to.Goals as goal

pub returns-then-justify : goal.returns-then-justify
unfolding raised
returns-then-justify c = rw (c.if-justify.true, c.at_least.ensures)

pub returns-else-justify : goal.returns-else-justify
unfolding raised
returns-else-justify c = rw c.if-justify.false
