use Rattle.emath.specs.Rectangles.{align_within}
use Rattle.emath.proofs.Align2.align_size_within_rect.Goals as goal

pub returns : goal.returns
unfolding align_within
returns c = rw (c.align_size_within_range-y_range.ensures, c.align_size_within_range-x_range.ensures)
