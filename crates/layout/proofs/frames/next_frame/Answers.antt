use Rattle.layout.specs.Rules.{wraps, next_frame, next_frame_ignore_wrap}
use Rattle.layout.proofs.frames.next_frame.Goals as goal

pub returns-then-is_wrapping : goal.returns-then-is_wrapping
unfolding next_frame wraps
returns-then-is_wrapping c = rw (← c.available_rect_before_wrap-available.ensures, ← c.is_wrapping.ensures, c.if-is_wrapping.true, c.next_frame_ignore_wrap.ensures, c.new_region-g.ensures)

pub returns-else-is_wrapping : goal.returns-else-is_wrapping
unfolding next_frame wraps next_frame_ignore_wrap
returns-else-is_wrapping c = rw (← c.available_rect_before_wrap-available.ensures, ← c.is_wrapping.ensures, c.if-is_wrapping.false, c.round_ui.ensures, c.frame_rect.ensures, c.available_rect_before_wrap-available.ensures)
