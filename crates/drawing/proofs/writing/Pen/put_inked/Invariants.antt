use Rattle.std.proofs.Common.{drop}
use Rattle.drawing.specs.Pieces.{inked}
use Rattle.drawing.specs.Implementation.Pens.{Writes}
use Rattle.drawing.specs.declared.writing.Pen.{Pen}
use Rattle.drawing.proofs.writing.Pen.put_inked.Given as goal

-- whoever writes the bytes to come has written all
abbrev pub invariant-loop-b : goal.invariant-loop-b
invariant-loop-b l = (q : Pen) → Writes (inked (drop l.b-index l.bytes)) l.self q → Writes (inked l.bytes) l.initial.self q
