use Rattle.drawing.specs.Pictures.{dimensions}
use Rattle.std.proofs.Common.{eq-eqb}
use Rattle.drawing.proofs.Pens.{after}
use Rattle.drawing.proofs.sections.put_dimensions.Goals as goal

pub returns-then-plate-eq1 : goal.returns-then-plate-eq1
unfolding dimensions
returns-then-plate-eq1 c = rw (eq-eqb _ _ c.if-plate-eq1.true) (after c.put_width_line.ensures c.put_height_line.ensures)
