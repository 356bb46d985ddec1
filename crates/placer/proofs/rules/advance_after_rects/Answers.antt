use Rattle.placer.specs.Rules.{advance_after_rects}
use Rattle.placer.proofs.rules.advance_after_rects.Goals as goal

pub returns : goal.returns
unfolding advance_after_rects
returns c = rw (c.expand_to_include_rect.ensures, c.moved_past.ensures)
