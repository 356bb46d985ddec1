-- RULES 6.22: the rectangles of a pass in whole steps of 1 / 2 ^ k point.
use Rattle.std.specs.Prelude.{List, [], ◌∷◌, ℕ}
use Rattle.region.specs.Steps.{WholeRect}
use Rattle.sheet.specs.Pass.{Cell}

-- RULES 6.22: every edge of a W's frame and widget is a whole step of the domain
pub data WholeCells (k : ℕ) : List Cell → Type 0 where
  none : WholeCells k []
  more : {c : Cell} {cs : List Cell} → WholeRect k c.frame → WholeRect k c.widget → WholeCells k cs → WholeCells k (c ∷ cs)
