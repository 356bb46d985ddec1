use Rattle.layout.specs.Rules.{frame_rect}
use Rattle.layout.proofs.frames.frame_rect.Goals as goal

pub returns : goal.returns
unfolding frame_rect
returns c = rw (c.moved_down.ensures, c.is_horizontal.ensures, c.align_size_within_rect-frame.ensures, c.frame_align2-align2.ensures, c.align2.ensures, c.frame_height.ensures, c.frame_width.ensures)
