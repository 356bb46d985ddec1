use Rattle.placer.specs.Rules.{moved_past, set_cursor}
use Rattle.placer.proofs.lent.cursor_past.Goals as goal

pub returns-then-placer : goal.returns-then-placer
unfolding moved_past set_cursor
returns-then-placer c ph ws hs = let a = c.args in rw c.if-placer.true (c.advanced_cursor.ensures ph ws hs a.widget_rect)

pub returns : goal.returns
unfolding moved_past set_cursor
returns c ph ws hs = rw c.if-placer.false c.advance_after_rects.ensures
