use Rattle.layout.specs.Rules.{available_rect_before_wrap}
use Rattle.layout.proofs.available.available_rect_before_wrap.Goals as goal

pub returns : goal.returns
unfolding available_rect_before_wrap
returns c = rw c.available_from_cursor_max_rect.ensures
