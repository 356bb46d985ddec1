use Rattle.std.proofs.Common.{inl, inr}
use Rattle.std.specs.Float.Ieee.{of_bits, neg}
use Rattle.layout.specs.Rules.{next_row}
use Rattle.layout.proofs.cursors.next_row.Goals as goal

pub returns-in-LeftToRight : goal.returns-in-LeftToRight
unfolding next_row of_bits neg
returns-in-LeftToRight c = rw (c.in-LeftToRight.is, c.with_cursor.ensures)

pub returns-in-RightToLeft : goal.returns-in-RightToLeft
unfolding next_row of_bits neg
returns-in-RightToLeft c = rw (c.in-RightToLeft.is, c.with_cursor-in-RightToLeft.ensures)

pub returns-in-TopDown : goal.returns-in-TopDown
unfolding next_row of_bits neg
returns-in-TopDown c = elim c.in-TopDown.is [ inl e ↦ rw e | inr e ↦ rw e ]
