use Rattle.placer.specs.Rules.{available_rect_before_wrap}
use Rattle.placer.proofs.rules.available_rect_before_wrap.Goals as goal

pub returns : goal.returns
unfolding available_rect_before_wrap
returns c = rw (c.round_ui.ensures, c.available_rect.ensures)
