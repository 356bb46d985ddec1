use Rattle.std.proofs.Common.{drop}
use Rattle.drawing.specs.Pieces.{filled, filled_from}
use Rattle.drawing.specs.Implementation.Pens.{Writes}
use Rattle.drawing.specs.declared.writing.Pen.{Pen}
use Rattle.drawing.proofs.writing.Pen.put_filled.Given as goal

-- whoever fills the rest of the template has filled all
abbrev pub invariant-loop-b : goal.invariant-loop-b
invariant-loop-b l = (q : Pen) → Writes (filled_from l.mark (drop l.b-index l.template) l.line.list.now l.line.at l.numbers) l.self q → Writes (filled l.template l.line.list.now l.line.at l.numbers) l.initial.self q
