use Rattle.layout.specs.Rules.{next_frame_ignore_wrap}
use Rattle.layout.proofs.frames.next_frame_ignore_wrap.Goals as goal

pub returns : goal.returns
unfolding next_frame_ignore_wrap
returns c = rw (c.round_ui.ensures, c.frame_rect.ensures, c.available_rect_before_wrap-available.ensures)
