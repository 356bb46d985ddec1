use Rattle.placer.specs.Rules.{moved_past}
use Rattle.placer.proofs.rules.moved_past.Goals as goal

pub returns-then-placer : goal.returns-then-placer
unfolding moved_past
returns-then-placer c = rw (c.set_grid.ensures, c.set_cursor.ensures, c.advance-m.ensures, c.if-placer.true)

pub returns : goal.returns
unfolding moved_past
returns c = rw (c.set_cursor-2.ensures, c.advance_after_rects-c.ensures, c.if-placer.false)
