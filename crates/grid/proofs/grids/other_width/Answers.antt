use Rattle.grid.specs.Grids.{other_width}
use Rattle.grid.proofs.grids.other_width.Goals as goal

pub returns-then-is_finite : goal.returns-then-is_finite
unfolding other_width
returns-then-is_finite c = rw (← c.is_finite.ensures, c.if-is_finite.true)

pub returns : goal.returns
unfolding other_width
returns c = rw (← c.is_finite.ensures, c.if-is_finite.false, c.col_width.ensures, c.col_width-current.ensures)
