use Rattle.placer.specs.Rules.{next_widget_position}
use Rattle.placer.proofs.rules.next_widget_position.Goals as goal

pub returns-then-placer : goal.returns-then-placer
unfolding next_widget_position
returns-then-placer c = rw (c.if-placer.true, c.center.ensures, c.next_cell.ensures)

pub returns : goal.returns
unfolding next_widget_position
returns c = rw (c.if-placer.false, c.next_widget_position.ensures)
