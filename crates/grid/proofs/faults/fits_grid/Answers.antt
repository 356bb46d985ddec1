use Rattle.grid.specs.Refusals.{fits_grid}
use Rattle.grid.proofs.faults.fits_grid.Goals as goal

pub returns-in-LeftToRight : goal.returns-in-LeftToRight
unfolding fits_grid
returns-in-LeftToRight c = rw c.in-LeftToRight.is

pub returns-in-RightToLeft : goal.returns-in-RightToLeft
unfolding fits_grid
returns-in-RightToLeft c = rw c.in-RightToLeft.is

pub returns-in-TopDown : goal.returns-in-TopDown
unfolding fits_grid
returns-in-TopDown c = rw c.in-TopDown.is

pub returns-in-BottomUp : goal.returns-in-BottomUp
unfolding fits_grid
returns-in-BottomUp c = rw c.in-BottomUp.is
