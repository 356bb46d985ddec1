use Rattle.std.proofs.Common.{◌-◌}
use Rattle.drawing.specs.Drawings.{each}
use Rattle.drawing.specs.Implementation.Pens.{Writes}
use Rattle.drawing.specs.declared.writing.Pen.{Pen}
use Rattle.drawing.proofs.rows.put_each.Given as goal

-- whoever draws the lines to come has drawn all
abbrev pub invariant-loop-i : goal.invariant-loop-i
invariant-loop-i l = (q : Pen) → Writes (each l.layer l.plate.page l.plate.list.now (l.count - l.i) l.i) l.pen q → Writes (each l.layer l.plate.page l.plate.list.now l.count 0) l.initial.pen q
