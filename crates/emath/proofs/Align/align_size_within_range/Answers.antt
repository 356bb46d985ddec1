use Rattle.emath.specs.Rectangles.{align_on, aligned_to}
use Rattle.emath.proofs.Align.align_size_within_range.Goals as goal

pub returns-then-fills : goal.returns-then-fills
unfolding align_on
returns-then-fills c = rw (← c.fills.ensures, c.if-fills.true)

pub returns-in-Min : goal.returns-in-Min
unfolding align_on aligned_to
returns-in-Min c = rw (← c.fills.ensures, c.if-fills.false, c.in-Min.is)

pub returns-in-Center : goal.returns-in-Center
unfolding align_on aligned_to
returns-in-Center c = rw (← c.fills.ensures, c.if-fills.false, c.in-Center.is, c.centred_in.ensures)

pub returns-in-Max : goal.returns-in-Max
unfolding align_on aligned_to
returns-in-Max c = rw (← c.fills.ensures, c.if-fills.false, c.in-Max.is)
